use Rattle.std.proofs.Common.{◌≡◌, ◌+◌, ◌-◌, ◌++◌, length}
use Rattle.disk_model.specs.declared.limits.TheConstants.{LOG_STRIPS}
use Rattle.wal_log.specs.Segments.{live_from}
use Rattle.wal_log.proofs.live.live_segments.Given as goal

abbrev pub invariant-segments : goal.invariant-segments
invariant-segments l = record {
  so_far : live_from l.headers LOG_STRIPS l.first ≡ l.live.items ++ live_from l.headers (LOG_STRIPS - l.count) l.segment;
  next : l.segment ≡ l.first + length l.live.items;
}
