pub mod Rounds
pub mod Counts
pub mod Widths
pub mod LaidDigits
pub mod MaskKinds
pub mod PutLaws
