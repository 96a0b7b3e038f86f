pub mod HeadLemmas
pub mod MergeLemmas
pub mod GroupLemmas
pub mod PackLemmas
pub mod CostLemmas
pub mod BuildLemmas
pub mod NextLemmas
pub mod StepLemmas
