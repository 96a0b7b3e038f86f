-- Worked runs of the machine: what the definitions give. To know: `found_below`, `found_in_held`, `page_of_pin`, `adopted_parts`, `gone`, `one_run`.
use Rattle.std.proofs.Common.{◌≡◌, ℕ, true, false, List, [], ◌∷◌, ◌++◌, length, refl}
use Rattle.std.specs.Prelude.{Option, Some, None}
use Rattle.rdb_base.specs.declared.change.Change.TheVariants.{Put}
use Rattle.rdb_base.specs.declared.pair.Pair.{Pair}
use Rattle.store_core.specs.Steps.{RunOf, Stepped, step, run}
use Rattle.store_core.specs.Worlds.{World, opening}
use Rattle.store_core.specs.declared.edition_part.EditionPart.{EditionPart}
use Rattle.store_core.specs.declared.run_file.RunFile.{RunFile}
use Rattle.store_core.specs.declared.store_answer.StoreAnswer.{StoreAnswer}
use Rattle.store_core.specs.declared.store_answer.StoreAnswer.TheVariants as answers
use Rattle.store_core.specs.declared.store_event.StoreEvent.{StoreEvent}
use Rattle.store_core.specs.declared.store_event.StoreEvent.TheVariants as events

abbrev world_after : RunOf → World
world_after None = opening
world_after (Some led) = led.0

abbrev after_all : List StoreEvent → World
after_all es = world_after (run opening es)

abbrev answer_of : Stepped → Option StoreAnswer
answer_of None = None
answer_of (Some stepped) = Some stepped.1

-- what an event answers after these
abbrev told : List StoreEvent → StoreEvent → Option StoreAnswer
told es e = answer_of (step (after_all es) e)

abbrev put : ℕ → ℕ → Pair
put key value = record { key = key ∷ []; change = Put (value ∷ []) }

abbrev settle : List StoreEvent
settle = events.Body ∷ events.Gate ∷ events.Settled ∷ []

abbrev freeze : List StoreEvent
freeze = settle ++ events.Header ∷ events.Freeze ∷ events.Install ∷ []

-- caller 0 puts a, the memtable is frozen; caller 1 puts b, and caller 0 takes the version
abbrev first : List StoreEvent
first = events.Append 0 (put 97 49) ∷ freeze ++ events.Append 1 (put 98 50) ∷ events.Take 0 ∷ []

found_below : told first (events.Look 0 (97 ∷ []) 2) ≡ Some (answers.Found 2 (Some (49 ∷ [])))
found_below = refl

found_above : told first (events.Look 0 (98 ∷ []) 2) ≡ Some (answers.Found 2 (Some (50 ∷ [])))
found_above = refl

-- at the memtable's base b is not there yet
found_none : told first (events.Look 0 (98 ∷ []) 1) ≡ Some (answers.Found 1 None)
found_none = refl

-- no front behind the end, and none below the memtable's base
no_later : told first (events.Look 0 (98 ∷ []) 3) ≡ None
no_later = refl

no_earlier : told first (events.Look 0 (97 ∷ []) 0) ≡ None
no_earlier = refl

-- who holds no version does not look
no_version : told first (events.Look 1 (97 ∷ []) 2) ≡ None
no_version = refl

-- caller 1 has seen its own update, which is above the installed memtable's base: it gets no pin; caller 0 does
no_pin : told first (events.Pin 1) ≡ None
no_pin = refl

pinned : told first (events.Pin 0) ≡ Some (answers.Pinned 0 1)
pinned = refl

-- an append needs the memtable open and no start of a segment under way; a header needs all settled, a freeze the header
no_header : told first events.Header ≡ None
no_header = refl

no_append : told (first ++ settle ++ events.Header ∷ []) (events.Append 0 (put 97 51)) ≡ None
no_append = refl

no_append_frozen : told (first ++ settle ++ events.Header ∷ events.Freeze ∷ []) (events.Append 0 (put 97 51)) ≡ None
no_append_frozen = refl

no_freeze : told (first ++ settle) events.Freeze ≡ None
no_freeze = refl

-- a table that is planned, written, settled and adopted: its number is 1, its edition's 2, and the next one is 3
abbrev compacted : List StoreEvent
compacted = first ++ events.Pin 0 ∷ events.Plan false ∷ events.Table ∷ events.EditionGate ∷ events.EditionSettled ∷ events.Adopt ∷ []

adopted_parts : (after_all compacted).used ≡ record { number = 2; next = 3; first = 1; parts = record { low = []; base = 1; runs = record { number = 1; run = put 97 49 ∷ [] } ∷ [] } ∷ [] }
adopted_parts = refl

no_member : (after_all compacted).frozen ≡ []
no_member = refl

-- the version that caller 0 took before is not changed by it
found_in_held : told compacted (events.Look 0 (97 ∷ []) 2) ≡ Some (answers.Found 2 (Some (49 ∷ [])))
found_in_held = refl

-- nor is the pin's page, which does not have b
page_of_pin : told compacted (events.List 0 [] 10) ≡ Some (answers.Rows (record { key = 97 ∷ []; value = 49 ∷ [] } ∷ []) true)
page_of_pin = refl

-- segment 0 is not needed then
released : (after_all (compacted ++ events.Release ∷ [])).segments ≡ record { number = 1; first = 1 } ∷ []
released = refl

-- a file that an edition names stays
no_remove : told compacted (events.Remove 1) ≡ None
no_remove = refl

-- a refused draft's numbers are not drawn again, and its file may be removed
abbrev refused : List StoreEvent
refused = first ++ events.Plan false ∷ events.Table ∷ events.Refuse ∷ []

drawn_once : (after_all (refused ++ events.Plan false ∷ [])).next ≡ 5
drawn_once = refl

gone : (after_all (refused ++ events.Remove 1 ∷ [])).files ≡ []
gone = refl

-- new pairs that are few and young are carried on, and no edition is made
abbrev carried : List StoreEvent
carried = first ++ events.Plan true ∷ []

carried_pairs : (after_all carried).carried ≡ put 97 49 ∷ []
carried_pairs = refl

no_draft : told carried events.Table ≡ None
no_draft = refl

-- a member frozen between plan and adopt stays
abbrev meanwhile : List StoreEvent
meanwhile = first ++ events.Plan false ∷ events.Table ∷ freeze ++ events.EditionGate ∷ events.EditionSettled ∷ events.Adopt ∷ []

one_stays : (after_all meanwhile).frozen ≡ record { number = 1; base = 1; upto = 2; run = put 98 50 ∷ [] } ∷ []
one_stays = refl

found_after : told (meanwhile ++ events.Take 1 ∷ []) (events.Look 1 (98 ∷ []) 2) ≡ Some (answers.Found 2 (Some (50 ∷ [])))
found_after = refl

-- an older edition's gate keeps a later one from being written until it is settled
abbrev twice : List StoreEvent
twice = first ++ events.Plan false ∷ events.Table ∷ events.EditionGate ∷ events.Refuse ∷ events.Plan false ∷ events.Table ∷ []

no_gate : told twice events.EditionGate ≡ None
no_gate = refl

later_gate : told (twice ++ events.EditionSettled ∷ []) events.EditionGate ≡ Some answers.Done
later_gate = refl

no_adopt : told (twice ++ events.EditionSettled ∷ []) events.Adopt ≡ None
no_adopt = refl

-- ---- each guard, not met

no_second_body : told (first ++ events.Body ∷ []) events.Body ≡ None
no_second_body = refl

no_frame_gate : told first events.Gate ≡ None
no_frame_gate = refl

no_gate_settled : told (first ++ events.Body ∷ []) events.Settled ≡ None
no_gate_settled = refl

no_second_header : told (first ++ settle ++ events.Header ∷ []) events.Header ≡ None
no_second_header = refl

-- the last live segment has no entry
no_empty_header : told [] events.Header ≡ None
no_empty_header = refl

no_install : told first events.Install ≡ None
no_install = refl

no_list : told first (events.List 0 [] 10) ≡ None
no_list = refl

no_member_plan : told (events.Append 0 (put 97 49) ∷ []) (events.Plan true) ≡ None
no_member_plan = refl

no_second_plan : told (first ++ events.Plan false ∷ []) (events.Plan false) ≡ None
no_second_plan = refl

no_table : told (first ++ events.Plan false ∷ events.Table ∷ []) events.Table ≡ None
no_table = refl

no_edition_gate : told (first ++ events.Plan false ∷ []) events.EditionGate ≡ None
no_edition_gate = refl

no_edition_settled : told (first ++ events.Plan false ∷ events.Table ∷ []) events.EditionSettled ≡ None
no_edition_settled = refl

no_refuse : told first events.Refuse ≡ None
no_refuse = refl

-- written, but not settled
no_early_adopt : told (first ++ events.Plan false ∷ events.Table ∷ events.EditionGate ∷ []) events.Adopt ≡ None
no_early_adopt = refl

-- settled, but not in use
no_release : told (first ++ events.Plan false ∷ events.Table ∷ events.EditionGate ∷ events.EditionSettled ∷ []) events.Release ≡ None
no_release = refl

-- a draft names it
no_draft_remove : told (first ++ events.Plan false ∷ events.Table ∷ []) (events.Remove 1) ≡ None
no_draft_remove = refl

-- ---- a major

-- an update, a freeze, and a compaction that is written and adopted
abbrev round : ℕ → List StoreEvent
round value =
    events.Append 0 (put 97 value) ∷ freeze ++ events.Plan false ∷ events.Table ∷ events.EditionGate ∷ events.EditionSettled ∷ events.Adopt ∷ events.Release ∷ []

abbrev eight : List StoreEvent
eight = round 1 ++ round 2 ++ round 3 ++ round 4 ++ round 5 ++ round 6 ++ round 7 ++ round 8

runs_of_first : List EditionPart → List RunFile
runs_of_first [] = []
runs_of_first (part ∷ parts) = part.runs

-- eight runs are the most; the ninth compaction merges all into one, without what was overwritten, and its edition names that file alone
eight_runs : length (runs_of_first (after_all eight).used.parts) ≡ 8
unfolding runs_of_first
eight_runs = refl

one_run : (after_all (eight ++ round 9)).used.parts ≡ record { low = []; base = 9; runs = record { number = 17; run = put 97 9 ∷ [] } ∷ [] } ∷ []
one_run = refl

-- a file of the edition before may be removed then
freed : told (eight ++ round 9) (events.Remove 15) ≡ Some answers.Done
freed = refl
