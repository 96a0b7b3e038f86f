-- Input that is whole requests does not end a session badly. To know: `never_badly`.
use Rattle.std.proofs.Common.{◌≡◌, ℕ, ◌<◌, true, false, List, [], ◌∷◌, ◌++◌, length, Option, Some, None, refl, sym, ap, subst, ◌∙◌, append_assoc, arith, inl, inr, ◌⊎◌}
use Rattle.std.specs.Prelude.{IfSome}
use Rattle.std.specs.List.{AllByRecursion}
use Rattle.std.specs.Io.KnownBytes.{prepend_known}
use Rattle.std.proofs.lemmas.List.{append-nil, length-append, nil_from_length}
use Rattle.rdb_base.proofs.Lists.{all-front, all-back}
use Rattle.history_core.specs.declared.request.Request.{Request}
use Rattle.history_core.specs.declared.request.Request.TheVariants.{Quit}
use Rattle.wire_protocol.specs.Grammar.{spell_request, spell_requests, IsRequest}
use Rattle.wire_protocol.specs.Messages.{wanted}
use Rattle.wire_protocol.specs.Decoding.{refusal}
use Rattle.wire_protocol.proofs.MessageLemmas.{same_request, nothing_wanted, no_refusal}
use Rattle.disk_model.specs.Piles.{Units}
use Rattle.history_core.specs.Passes.{PassState}
use Rattle.session_core.specs.declared.limits.TheConstants.{SESSION_MAX}
use Rattle.session_core.specs.declared.session_end.SessionEnd.{SessionEnd}
use Rattle.session_core.specs.declared.session_end.SessionEnd.TheVariants.{End, Quit as Quitted, Bad, Cut, Spent, SourceFault, SinkFault, Memory}
use Rattle.session_core.specs.Conversations.{NoQuit, EndsWithQuit, is_quit, IsRefused, SessionEnds, scene_of}
use Rattle.remixdb.specs.Outcomes.{status_of, outcome_of_end}
use Rattle.remixdb.specs.Scripts.{IsWellFormed}

-- two lists of requests at one front: one of them goes on where the other one ends
abbrev pub Aligned : List Request → List Request → List ℕ → List ℕ → Type 0
Aligned asked all more rest =
    ((tail : List Request) × (all ≡ asked ++ tail) × AllByRecursion IsRequest tail × (spell_requests tail ++ rest ≡ more))
    ⊎ ((tail : List Request) × (asked ≡ all ++ tail) × (rest ≡ spell_requests tail ++ more))

cons_both : (p q : Request) (ps qs : List Request) → p ≡ q → ps ≡ qs → p ∷ ps ≡ q ∷ qs
cons_both p q ps qs a b = cc

aligned : (asked all : List Request) (more rest : List ℕ) → AllByRecursion IsRequest asked → AllByRecursion IsRequest all → spell_requests all ++ rest ≡ spell_requests asked ++ more → Aligned asked all more rest
aligned [] all more rest fa fb e = inl (all, refl, fb, e)
aligned (q ∷ asked) [] more rest fa fb e = inr (q ∷ asked, refl, e)
aligned (q ∷ asked) (p ∷ all) more rest fa fb e =
    let both : spell_request p ++ (spell_requests all ++ rest) ≡ spell_request q ++ (spell_requests asked ++ more) = sym (append_assoc (spell_request p) (spell_requests all) rest) ∙ e ∙ append_assoc (spell_request q) (spell_requests asked) more in
    let s = same_request p q (spell_requests all ++ rest) (spell_requests asked ++ more) fb.0 fa.0 both in
    further (aligned asked all more rest fa.1 fb.1 s.1) s.0
  where
    further : Aligned asked all more rest → p ≡ q → Aligned (q ∷ asked) (p ∷ all) more rest
    further (inl (tail, is, fits, bytes)) same = inl (tail, cons_both p q all (asked ++ tail) same is, fits, bytes)
    further (inr (tail, is, bytes)) same = inr (tail, cons_both q p asked (all ++ tail) (sym same) is, bytes)

no_quit_before : (front tail : List Request) → NoQuit ((front ++ Quit ∷ []) ++ tail) → ⊥
no_quit_before front tail h =
    let P : Request → Type 0 = λ request. is_quit request ≡ false in
    let last = all-back P front (Quit ∷ []) (all-front P (front ++ Quit ∷ []) tail h) in
    wrong last.0
  where
    wrong : true ≡ false → ⊥
    wrong e = cc

-- what stands after requests, none of which is a QUIT, in bytes that are whole requests
abbrev pub Next : List ℕ → Type 0
Next more = ((request : Request) × (rest : List ℕ) × IsRequest request × (more ≡ spell_request request ++ rest)) ⊎ (more ≡ [])

no_more : (front more : List ℕ) → [] ≡ front ++ more → more ≡ []
no_more front more e = nil_from_length more (omega (arith, ap length e, length-append front more))

next_is : (input : List ℕ) (asked : List Request) (more : List ℕ) → IsWellFormed input → AllByRecursion IsRequest asked → NoQuit asked → input ≡ spell_requests asked ++ more → Next more
next_is input asked more (all, rest, fits, is, ending) asked_fit no_quit e = by_side (aligned asked all more rest asked_fit fits (sym is ∙ e)) ending
  where
    by_side : Aligned asked all more rest → EndsWithQuit all ⊎ (rest ≡ []) → Next more
    by_side (inl (q ∷ tail, same, tail_fit, bytes)) ending = inl (q, spell_requests tail ++ rest, tail_fit.0, sym bytes ∙ append_assoc (spell_request q) (spell_requests tail) rest)
    by_side (inl ([], same, tail_fit, bytes)) (inr none) = inr (sym bytes ∙ none)
    by_side (inl ([], same, tail_fit, bytes)) (inl (front, quits, before)) =
        let quits_too : asked ≡ (front ++ Quit ∷ []) ++ [] = sym (append-nil asked) ∙ sym same ∙ quits ∙ sym (append-nil (front ++ Quit ∷ [])) in
        absurd (no_quit_before front [] (subst (λ (qs : List Request). NoQuit qs) quits_too no_quit))
    by_side (inr (tail, same, bytes)) (inr none) = inr (no_more (spell_requests tail) more (sym none ∙ bytes))
    by_side (inr (tail, same, bytes)) (inl (front, quits, before)) =
        absurd (no_quit_before front tail (subst (λ (qs : List Request). NoQuit qs) (same ∙ ap (λ (qs : List Request). qs ++ tail) quits) no_quit))

never_cut : (input : List ℕ) (asked : List Request) (more : List ℕ) → IsWellFormed input → AllByRecursion IsRequest asked → NoQuit asked → input ≡ spell_requests asked ++ more → 0 < length more → 0 < wanted more → ⊥
never_cut input asked more well fit no_quit e some lacks = by_next (next_is input asked more well fit no_quit e)
  where
    by_next : Next more → ⊥
    by_next (inl (request, after, fits, is)) = omega (arith, ap wanted is, nothing_wanted request after fits, lacks)
    by_next (inr none) = omega (arith, ap length none, some)

never_refused : (input : List ℕ) (asked : List Request) (more held rest : List ℕ) (code : ℕ) → IsWellFormed input → AllByRecursion IsRequest asked → NoQuit asked → input ≡ spell_requests asked ++ more → more ≡ held ++ rest → IsRefused held code → ⊥
never_refused input asked more held rest code well fit no_quit e split refused = by_next (next_is input asked more well fit no_quit e)
  where
    empty_lacks : (bytes : List ℕ) → bytes ≡ [] → wanted bytes ≡ 0 → ⊥
    empty_lacks [] same whole = omega (arith, whole)
    empty_lacks (b ∷ bytes) same whole = cc

    front_none : held ++ rest ≡ [] → held ≡ []
    front_none none = nil_from_length held (omega (arith, ap length none, length-append held rest))

    not_both : refusal held ≡ None → refusal held ≡ Some code → ⊥
    not_both a b = let both : None ≡ Some code = sym a ∙ b in cc

    by_next : Next more → ⊥
    by_next (inl (request, after, fits, is)) = not_both (no_refusal request held after rest fits refused.within refused.whole (sym split ∙ is)) refused.code_is
    by_next (inr none) = empty_lacks held (front_none (sym split ∙ none)) refused.whole

-- ---- the end of a session

-- bytes that came to an end
some_is : (a b : List ℕ) → Some a ≡ Some b → a ≡ b
some_is a b e = cc

left_known : (a b : List ℕ) (input : List ℕ) (left : Option (List ℕ)) → Some input ≡ prepend_known a (prepend_known b left) → (rest : List ℕ) × (left ≡ Some rest) × (input ≡ a ++ (b ++ rest))
left_known a b input (Some rest) e = (rest, refl, some_is input (a ++ (b ++ rest)) e)
left_known a b input None e = absurd cc

nothing_left : (left : Option (List ℕ)) (rest : List ℕ) → left ≡ Some rest → IfSome left (λ bytes. bytes ≡ []) → rest ≡ []
nothing_left (Some bytes) rest e none = sym (some_is bytes rest e) ∙ none
nothing_left None rest e none = absurd cc

-- input that is whole requests, and not too long, does not end a session badly
pub never_badly : (end : SessionEnd) (decided : ℕ) (input : List ℕ) (before left put : Option (List ℕ)) (pass now : PassState) (units : List (Option Units)) → SessionEnds end 0 (scene_of (Some input) before pass []) (scene_of left put now units) decided → IsWellFormed input → length input < SESSION_MAX → status_of (outcome_of_end end) ≡ 1 → ⊥
never_badly Quitted decided input before left put pass now units h well few one = omega (arith, one)
never_badly End decided input before left put pass now units h well few one = omega (arith, one)
never_badly SourceFault decided input before left put pass now units h well few one = omega (arith, one)
never_badly SinkFault decided input before left put pass now units h well few one = omega (arith, one)
never_badly Memory decided input before left put pass now units h well few one = omega (arith, one)
never_badly (Cut at) decided input before left put pass now units (held, so, some, lacks, over, fits) well few one =
    let k = left_known (spell_requests so.asked) held input left so.exchange.came in
    let none : k.0 ≡ [] = nothing_left left k.0 k.1 over in
    let is : input ≡ spell_requests so.asked ++ held = k.2 ∙ ap (λ (rest : List ℕ). spell_requests so.asked ++ (held ++ rest)) none ∙ ap (λ (more : List ℕ). spell_requests so.asked ++ more) (append-nil held) in
    never_cut input so.asked held well so.exchange.requests so.no_quit is some lacks
never_badly (Bad at code) decided input before left put pass now units (held, other, others, so, refused, put_is, counted, most) well few one =
    let k = left_known (spell_requests so.asked) held input left so.exchange.came in
    never_refused input so.asked (held ++ k.0) held k.0 code well so.exchange.requests so.no_quit k.2 refl refused
never_badly Spent decided input before left put pass now units (held, at, so, full, lacks) well few one =
    let k = left_known (spell_requests so.asked) held input left so.exchange.came in
    omega (arith, few, full, so.place, ap (λ (bytes : List ℕ). length bytes) k.2, length-append (spell_requests so.asked) (held ++ k.0), length-append held k.0)
