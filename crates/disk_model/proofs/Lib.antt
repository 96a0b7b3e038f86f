mod CauseLemmas
mod FileLemmas
mod MarkLemmas
mod NumberLemmas
mod ShelfLemmas
mod SlotLemmas
