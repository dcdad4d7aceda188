pub mod MovementCopies
