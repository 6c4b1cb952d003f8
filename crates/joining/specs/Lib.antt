-- What the functions of src leave, step by step.
pub mod Writing
