-- That the targets' columns admit the rows, and that a flip leaves a database.
pub mod Admitted
pub mod Few
pub mod Fits
pub mod Flip
pub mod Within
