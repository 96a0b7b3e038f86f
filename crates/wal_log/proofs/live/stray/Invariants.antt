use Rattle.std.proofs.Common.{◌≡◌, drop}
use Rattle.wal_log.specs.Segments.{stray_from}
use Rattle.wal_log.proofs.live.stray.Given as goal

abbrev pub invariant-headers : goal.invariant-headers
invariant-headers l = stray_from l.next l.headers ≡ stray_from l.next (drop l.header-index l.headers)
