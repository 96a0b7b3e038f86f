use Rattle.std.proofs.Common.{refl}
use Rattle.std.proofs.lemmas.Option.{slice_get_within}
use Rattle.overlay_view.specs.declared.head.Head.TheVariants as heads
use Rattle.overlay_view.proofs.CursorLemmas.{head-named, stepped-newer, stepped-both, stepped-older, stepped-end}
use Rattle.overlay_view.proofs.cursor.Cursor.step.Goals as goal

pub after-self-requires : goal.after-self-requires
after-self-requires g c =
    let is = head-named g.T.Runs.run c.args.parts.now c.args.upper.now c.args.self.now c.head.result heads.Newer c.requires.placed c.requires.goes_on c.head.ensures c.in-Newer.is in
    slice_get_within c.args.upper.now.rows c.args.self.now.at is.0 is.1

pub after-self-requires-in-Both : goal.after-self-requires-in-Both
after-self-requires-in-Both g c =
    let is = head-named g.T.Runs.run c.args.parts.now c.args.upper.now c.args.self.now c.head.result heads.Both c.requires.placed c.requires.goes_on c.head.ensures c.in-Both.is in
    slice_get_within c.args.upper.now.rows c.args.self.now.at is.0 is.1

pub returns-in-Newer-clause-pairs : goal.returns-in-Newer-clause-pairs
returns-in-Newer-clause-pairs g c =
    let is = head-named g.T.Runs.run c.args.parts.now c.args.upper.now c.args.self.now c.head.result heads.Newer c.requires.placed c.requires.goes_on c.head.ensures c.in-Newer.is in
    (stepped-newer g.T.Runs.run c.args.parts.now c.args.upper.now c.args.self.now (record { at = c.after-self.result; older = c.args.self.now.older }) c.requires.goes_on is c.after-self.ensures refl).pairs

pub returns-in-Both-clause-pairs : goal.returns-in-Both-clause-pairs
returns-in-Both-clause-pairs g c =
    let is = head-named g.T.Runs.run c.args.parts.now c.args.upper.now c.args.self.now c.head.result heads.Both c.requires.placed c.requires.goes_on c.head.ensures c.in-Both.is in
    (stepped-both g.T.Runs.run c.args.parts.now c.args.upper.now c.args.self.now (record { at = c.after-self-in-Both.result; older = c.next_older-self.result }) c.requires.goes_on is c.after-self-in-Both.ensures (c.next_older-self.ensures.same, c.next_older-self.ensures.stands)).pairs

pub returns-in-Both-clause-goes_on : goal.returns-in-Both-clause-goes_on
returns-in-Both-clause-goes_on g c =
    let is = head-named g.T.Runs.run c.args.parts.now c.args.upper.now c.args.self.now c.head.result heads.Both c.requires.placed c.requires.goes_on c.head.ensures c.in-Both.is in
    (stepped-both g.T.Runs.run c.args.parts.now c.args.upper.now c.args.self.now (record { at = c.after-self-in-Both.result; older = c.next_older-self.result }) c.requires.goes_on is c.after-self-in-Both.ensures (c.next_older-self.ensures.same, c.next_older-self.ensures.stands)).goes_on

pub returns-in-Older-clause-pairs : goal.returns-in-Older-clause-pairs
returns-in-Older-clause-pairs g c =
    let is = head-named g.T.Runs.run c.args.parts.now c.args.upper.now c.args.self.now c.head.result (heads.Older c.in-Older.field-0) c.requires.placed c.requires.goes_on c.head.ensures c.in-Older.is in
    (stepped-older g.T.Runs.run c.args.parts.now c.args.upper.now c.args.self.now (record { at = c.args.self.now.at; older = c.next_older-self-in-Older.result }) c.in-Older.field-0 c.requires.goes_on is refl (c.next_older-self-in-Older.ensures.same, c.next_older-self-in-Older.ensures.stands)).pairs

pub returns-in-Older-clause-goes_on : goal.returns-in-Older-clause-goes_on
returns-in-Older-clause-goes_on g c =
    let is = head-named g.T.Runs.run c.args.parts.now c.args.upper.now c.args.self.now c.head.result (heads.Older c.in-Older.field-0) c.requires.placed c.requires.goes_on c.head.ensures c.in-Older.is in
    (stepped-older g.T.Runs.run c.args.parts.now c.args.upper.now c.args.self.now (record { at = c.args.self.now.at; older = c.next_older-self-in-Older.result }) c.in-Older.field-0 c.requires.goes_on is refl (c.next_older-self-in-Older.ensures.same, c.next_older-self-in-Older.ensures.stands)).goes_on

pub returns-in-End-clause-pairs : goal.returns-in-End-clause-pairs
returns-in-End-clause-pairs g c =
    let is = head-named g.T.Runs.run c.args.parts.now c.args.upper.now c.args.self.now c.head.result heads.End c.requires.placed c.requires.goes_on c.head.ensures c.in-End.is in
    (stepped-end g.T.Runs.run c.args.parts.now c.args.upper.now c.args.self.now c.requires.goes_on is).pairs
