mod Bare
