-- Proofs of what every law owes, which its implementation names; the definitions stand beside this folder.
pub mod Stepping
pub mod Lawful
pub mod Peaks
pub mod Slopes
pub mod Straight
pub mod Bent
pub mod Odd
pub mod Milled
