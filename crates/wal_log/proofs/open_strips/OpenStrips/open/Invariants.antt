use Rattle.std.proofs.Common.{◌≡◌, ◌+◌, ◌≤◌, vec_len, vec_capacity}
use Rattle.std.specs.Prelude.{reverse}
use Rattle.disk_model.specs.declared.limits.TheConstants.{LOG_STRIPS}
use Rattle.wal_log.specs.Strips.{HasRead}
use Rattle.wal_log.proofs.open_strips.OpenStrips.open.Given as goal

abbrev pub invariant-strips : goal.invariant-strips
invariant-strips g l = record {
  read : HasRead g.S.Strip l.fn.strips.items (reverse l.strips.items) l.journals.items l.frames.items;
  eight : vec_len l.journals + vec_len l.strips ≡ LOG_STRIPS;
  room : LOG_STRIPS ≤ vec_capacity l.strips;
  journals_room : LOG_STRIPS ≤ vec_capacity l.journals;
  frames_room : vec_len l.frames + vec_len l.strips ≤ vec_capacity l.frames;
}

abbrev pub decreases-strips : goal.decreases-strips
decreases-strips g l = vec_len l.strips
