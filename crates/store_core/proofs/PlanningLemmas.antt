-- A compaction of all members keeps the map. To know: `map-now`, `carried-below`, `draft-below`.
use Rattle.std.proofs.Common.{◌≡◌, List, [], sym, ap, subst, ◌∙◌, arith}
use Rattle.rdb_base.specs.Levels.{over, live}
use Rattle.rdb_base.specs.Runs.{IsRun}
use Rattle.rdb_base.proofs.RunLemmas.{IsRun-over}
use Rattle.partition_plan.specs.Compactions.{AreAllParts, parts_level, news, spread}
use Rattle.partition_plan.specs.declared.decision.Decision.{Decision}
use Rattle.partition_plan.proofs.CompactionLemmas.{compaction-kept}
use Rattle.partition_plan.proofs.PartLemmas.{IsRun-parts_level}
use Rattle.store_core.specs.Claims.{IsMapAt, IsBelow, Core, core_of, IsSound, Sound}
use Rattle.store_core.specs.Editions.{all_plain}
use Rattle.store_core.specs.Levels.{stacked, files_level}
use Rattle.store_core.specs.Steps.{new_pairs, begins_of, draft_of}
use Rattle.store_core.specs.Worlds.{World, memtables}
use Rattle.store_core.specs.declared.edition_part.EditionPart.{EditionPart}
use Rattle.store_core.specs.declared.member.Member.{Member}
use Rattle.store_core.proofs.NumberLemmas.{carried_in-compaction, all_plain-compaction}
use Rattle.store_core.proofs.StackLemmas.{stacked-append, stacked-over, IsRun-stacked, live-stacked, Covers-up}

IsRun-files_level : (parts : List EditionPart) → AreAllParts (all_plain parts) → IsRun (files_level parts)
IsRun-files_level parts all = IsRun-parts_level _ (all_plain parts) all.each

-- what lies below the installed memtable is the map at its base
pub map-now : (c : Core) (s : IsSound c) → IsMapAt c.history c.installed.base (record { members = c.frozen; carried = c.carried; parts = c.parts })
map-now c s =
    let low = over c.carried (files_level c.parts) in
    let run : IsRun low = IsRun-over c.carried (files_level c.parts) (IsRun-files_level c.parts s.below.all) in
    let up = Covers-up c.history c.installed.base s.upto s.newer s.covers in
    let from = s.from in
    record {
      from = omega (arith, up, from);
      upto = s.base;
      rows =
          ap (λ (ms : List Member). live (stacked ms low)) s.frozen
          ∙ ap live (stacked-append s.newer s.taken low)
          ∙ live-stacked c.history c.installed.base s.upto s.newer (stacked s.taken low) s.covers s.from (IsRun-stacked s.taken low run) s.below.rows;
      rises = IsRun-stacked c.frozen low run;
    }

-- the members above what was carried on, above the partitions, are the new pairs above the partitions
new-above : (c : Core) (s : IsSound c) → live (over (stacked c.frozen c.carried) (files_level c.parts)) ≡ live (stacked c.frozen (over c.carried (files_level c.parts)))
new-above c s = ap live (sym (stacked-over c.frozen c.carried (files_level c.parts) (IsRun-files_level c.parts s.below.all)))

-- carried on they are the same map
pub carried-below : (c : Core) → IsSound c → IsBelow c.history c.installed.base [] (stacked c.frozen c.carried) c.parts
carried-below c s = record { rows = new-above c s ∙ (map-now c s).rows; rises = IsRun-stacked c.frozen c.carried s.below.rises; all = s.below.all }

-- so is what a draft carries on, above its partitions, whatever was decided
pub draft-below : (w : World) (decisions : List Decision) → Sound w → IsBelow w.history w.installed.base [] (draft_of w decisions).carried (draft_of w decisions).edition.parts
draft-below w decisions s =
    let parts = w.used.parts in
    let k = compaction-kept (spread decisions (news (all_plain parts) (new_pairs w))) (all_plain parts) (new_pairs w) s.below.all (IsRun-stacked w.frozen w.carried s.below.rises) in
    let after = all_plain-compaction (memtables w) w.log w.next w.installed.base (begins_of w decisions) decisions parts (new_pairs w) in
    let carried = carried_in-compaction (memtables w) w.log decisions parts (new_pairs w) in
    record {
      rows =
          (λ i. live (over (carried i) (parts_level (after i))))
          ∙ k.rows
          ∙ new-above (core_of w) s
          ∙ (map-now (core_of w) s).rows;
      rises = subst IsRun (sym carried) k.rises;
      all = subst AreAllParts (sym after) k.all;
    }
