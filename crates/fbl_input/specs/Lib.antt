pub mod Shapes
pub mod Items
pub mod Forms
pub mod Faults
pub mod Explanations
pub mod Lines
