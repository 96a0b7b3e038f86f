pub mod PlaceLemmas
pub mod StepLemmas
pub mod BeginLemmas
pub mod CountLemmas
pub mod CutLemmas
pub mod KeptLemmas
pub mod BelowLemmas
