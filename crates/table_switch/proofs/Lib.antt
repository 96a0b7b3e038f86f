pub mod RisingLemmas
pub mod WriterLemmas
pub mod RollLemmas
