use Rattle.std.proofs.Common.{◌≡◌, ◌-◌, ◌<◌, length, IsOk}
use Rattle.entry_code.specs.Payloads.{entry_at, entries_at}
use Rattle.entry_code.proofs.EntryLemmas.{after}
use Rattle.entry_code.proofs.decoding.entries_after.Given as goal

abbrev pub invariant-loop-place : goal.invariant-loop-place
invariant-loop-place l = record {
  so_far : entries_at l.fn.count l.fn.bytes ≡ after l.entries.items (entries_at (l.fn.count - l.place) l.rest);
  many : length l.entries.items ≡ l.place;
  begins : l.place ≡ 0 → l.rest ≡ l.fn.bytes;
  first : 0 < l.place → IsOk (entry_at l.fn.bytes);
}
