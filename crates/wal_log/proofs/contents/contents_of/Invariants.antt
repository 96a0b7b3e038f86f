use Rattle.std.proofs.Common.{◌≡◌, ◌≤◌, drop}
use Rattle.rdb_base.specs.declared.limits.TheConstants.{NUMBER_MAX}
use Rattle.wal_log.specs.LogValues.{end_from}
use Rattle.wal_log.specs.Segments.{contents_from}
use Rattle.wal_log.proofs.SegmentLemmas.{contents_after}
use Rattle.wal_log.proofs.contents.contents_of.Given as goal

abbrev pub invariant-live : goal.invariant-live
invariant-live l = record {
  so_far : contents_from l.strips l.start l.live ≡ contents_after l.segments.items (contents_from l.strips l.end (drop l.header-index l.live));
  end : l.end ≡ end_from l.start l.segments.items;
  most : l.end ≤ NUMBER_MAX;
}
