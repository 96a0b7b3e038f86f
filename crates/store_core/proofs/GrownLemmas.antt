-- What an entry more leaves as it was. To know: `IsMapAt-grown`, `Covers-grown`, `grown-sound`.
use Rattle.std.proofs.Common.{ℕ, ◌≤◌, List, [], ◌∷◌, Option, Some, None, IfSome, sym, ap, ◌∙◌, arith}
use Rattle.rdb_base.specs.Histories.{History, end}
use Rattle.rdb_base.specs.Levels.{newest}
use Rattle.rdb_base.specs.declared.entry.Entry.{Entry}
use Rattle.rdb_base.specs.declared.pair.Pair.{Pair}
use Rattle.rdb_base.proofs.Lists.{all-weaker}
use Rattle.store_core.specs.Claims.{Covers, IsMapAt, PinHolds, IsBelow, DraftHolds, Core, IsSound}
use Rattle.store_core.specs.Steps.{grown_by}
use Rattle.store_core.specs.Worlds.{caller_in}
use Rattle.store_core.specs.declared.draft.Draft.{Draft}
use Rattle.store_core.specs.declared.edition_part.EditionPart.{EditionPart}
use Rattle.store_core.specs.declared.levels.Levels.{Levels}
use Rattle.store_core.specs.declared.member.Member.{Member}
use Rattle.store_core.specs.declared.memtable.Memtable.{Memtable}
use Rattle.store_core.specs.declared.version.Version.{Version}
use Rattle.store_core.proofs.RangeLemmas.{after-grown, range-grown, end-grown}
use Rattle.store_core.proofs.StackLemmas.{Covers-up}

pub IsMapAt-grown : (h : History) (e : Entry) (n : ℕ) (levels : Levels) → IsMapAt h n levels → IsMapAt (grown_by h e) n levels
IsMapAt-grown h e n levels m =
    let g = end-grown h e in
    let up = m.upto in
    record { from = m.from; upto = omega (arith, g, up); rows = m.rows ∙ sym (after-grown h e n m.upto); rises = m.rises }

pub Covers-grown : (h : History) (e : Entry) (upto low : ℕ) (ms : List Member) → h.first ≤ low → upto ≤ end h → Covers h upto low ms → Covers (grown_by h e) upto low ms
Covers-grown h e upto low [] from below c = c
Covers-grown h e upto low (m ∷ ms) from below c =
    let up = Covers-up h m.base low ms c.3 in
    (c.0, c.1, c.2 ∙ ap (newest []) (sym (range-grown h e m.base m.upto (omega (arith, from, up)) c.1 (omega (arith, c.0, below)))), Covers-grown h e m.base low ms from (omega (arith, c.0, c.1, below)) c.3)

IsBelow-grown : (h : History) (e : Entry) (n : ℕ) (members : List Member) (carried : List Pair) (parts : List EditionPart) → n ≤ end h → IsBelow h n members carried parts → IsBelow (grown_by h e) n members carried parts
IsBelow-grown h e n members carried parts le b = record { rows = b.rows ∙ sym (after-grown h e n le); rises = b.rises; all = b.all }

held-grown : (h : History) (e : Entry) (held : Option Version) → IfSome held (λ v. IsMapAt h v.base v.below) → IfSome held (λ v. IsMapAt (grown_by h e) v.base v.below)
held-grown h e None t = tt
held-grown h e (Some v) m = IsMapAt-grown h e v.base v.below m

draft-grown : (h : History) (e : Entry) (n : ℕ) (taken : List Member) (draft : Option Draft) → n ≤ end h → IfSome draft (λ d. DraftHolds h n taken d) → IfSome draft (λ d. DraftHolds (grown_by h e) n taken d)
draft-grown h e n taken None le t = tt
draft-grown h e n taken (Some d) le holds = record { taken = holds.taken; below = IsBelow-grown h e n [] d.carried d.edition.parts le holds.below }

opened-grown : (h : History) (e : Entry) (base : ℕ) (opened : Option Memtable) → IfSome opened (λ m. (base ≤ m.base) × (m.base ≤ end h)) → IfSome opened (λ m. (base ≤ m.base) × (m.base ≤ end (grown_by h e)))
opened-grown h e base None t = tt
opened-grown h e base (Some m) holds = let g = end-grown h e in (holds.0, omega (arith, g, holds.1))

pub upto-end : (c : Core) (s : IsSound c) → s.upto ≤ end c.history
upto-end c s = let up = Covers-up c.history c.installed.base s.upto s.newer s.covers in let base = s.base in omega (arith, up, base)

pub grown-sound : (c : Core) (e : Entry) → IsSound c → IsSound (record c { history = grown_by c.history e })
grown-sound c e s =
    let h = c.history in
    let le = upto-end c s in
    let g = end-grown h e in
    let b = s.base in
    record {
      upto = s.upto;
      newer = s.newer;
      taken = s.taken;
      frozen = s.frozen;
      from = s.from;
      covers = Covers-grown h e c.installed.base s.upto s.newer s.from s.base s.covers;
      below = IsBelow-grown h e s.upto s.taken c.carried c.parts le s.below;
      base = omega (arith, g, b);
      opened = opened-grown h e c.installed.base c.opened s.opened;
      draft = draft-grown h e s.upto s.taken c.draft le s.draft;
      held = λ number. held-grown h e (caller_in c.callers number).held (s.held number);
      pins = all-weaker (PinHolds h) (PinHolds (grown_by h e)) (λ p m. IsMapAt-grown h e p.front p.below m) c.pins s.pins;
    }
