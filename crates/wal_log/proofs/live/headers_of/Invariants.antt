use Rattle.std.proofs.Common.{◌≡◌, length, drop}
use Rattle.std.specs.List.{AllByRecursion}
use Rattle.wal_log.specs.Segments.{headers_from, IsHeaderWithin}
use Rattle.wal_log.proofs.SegmentLemmas.{headers_after}
use Rattle.wal_log.proofs.live.headers_of.Given as goal

abbrev pub invariant-strips : goal.invariant-strips
invariant-strips l = record {
  so_far : headers_from 0 l.strips ≡ headers_after l.headers.items (headers_from l.strip (drop l.frames-index l.strips));
  many : length l.headers.items ≡ l.frames-index;
  here : l.strip ≡ l.frames-index;
  within : AllByRecursion IsHeaderWithin l.headers.items;
}
