pub mod interleaving
pub mod keeping
pub mod order
pub mod served
