-- What one turn of a session comes to. Nothing is held when a turn begins. To know: `turn_untaken` (no whole message was
-- taken), `turn_sent` (its reply was put), `turn_unsent` (the sink failed).
use Rattle.std.proofs.Common.{◌≡◌, ℕ, ◌<◌, ◌≤◌, List, [], ◌∷◌, ◌++◌, length, take, Option, Some, None, Err, refl, sym, ap, subst, ◌∙◌, arith, inl, inr, ◌⊎◌}
use Rattle.std.specs.Io.KnownBytes.{prepend_known, append_known}
use Rattle.std.proofs.lemmas.List.{append-nil, nil_from_length}
use Rattle.history_core.specs.declared.request.Request.{Request}
use Rattle.history_core.specs.declared.request.Request.TheVariants.{Put, Delete, Get, Sync, Quit}
use Rattle.history_core.specs.declared.reply.Reply.{Reply}
use Rattle.history_core.specs.declared.reply.Reply.TheVariants.{Bye, BadMessage}
use Rattle.wire_protocol.specs.Grammar.{spell_request, spell_reply, spell_replies}
use Rattle.wire_protocol.specs.Messages.{Held, wanted}
use Rattle.wire_protocol.specs.Decoding.{Takes}
use Rattle.disk_model.specs.Piles.{number_at}
use Rattle.session_core.specs.declared.limits.TheConstants.{SESSION_MAX}
use Rattle.session_core.specs.declared.session_end.SessionEnd.{SessionEnd}
use Rattle.session_core.specs.declared.session_end.SessionEnd.TheVariants.{End, Quit as Quitted, Bad, Cut, Spent, SourceFault, SinkFault}
use Rattle.session_core.specs.Telling.{StoreState, StoreAnswers}
use Rattle.session_core.specs.Conversations.{Scene, IsOver, Exchange, SoFar, NoQuit, EndsWithQuit, SessionEnds, PutFailed, IsRefused, before_taking, with_put, decided_of}
use Rattle.session_core.specs.Turns.{EndsInput, MessageTaken, IsAnswered, Comes, TurnOut, taken_of}
use Rattle.session_core.proofs.ExchangeLemmas.{prepend_known-nil, append_known-nil, nothing_exchanged, exchange_one, so_far_none}

-- the scene when other bytes are to come
abbrev pub after_taking : Option (List ℕ) → Scene → Scene
after_taking coming scene = record scene { coming = coming }

-- what came is what is held and what is still to come
came_is : (old held : Held) (came coming : Option (List ℕ)) → old.bytes ≡ [] → prepend_known held.bytes coming ≡ prepend_known old.bytes came → came ≡ prepend_known held.bytes coming
came_is old held came coming empty e = sym (prepend_known-nil came) ∙ sym (ap (λ (h : List ℕ). prepend_known h came) empty) ∙ sym e

-- only bytes were taken
only_taken : (old held : Held) (before : Scene) (coming : Option (List ℕ)) → old.bytes ≡ [] → prepend_known held.bytes coming ≡ prepend_known old.bytes before.coming → Exchange before (before_taking held.bytes (after_taking coming before)) [] []
only_taken old held before coming empty e = nothing_exchanged before (before_taking held.bytes (after_taking coming before)) (came_is old held before.coming coming empty e) refl refl (λ d. refl)

so_far_at : (from at n : ℕ) (old new : Scene) → at ≡ from → SoFar from old new from n → SoFar from old new at n
so_far_at from at n old new e s = subst (λ (k : ℕ). SoFar from old new k n) (sym e) s

-- ---- no whole message was taken

-- where nothing came, the same is held
none_came : (old new : Held) (came : List ℕ) → new ≡ record { at = old.at; bytes = old.bytes ++ came } → length came ≡ 0 → new ≡ old
none_came old new came is none = is ∙ ap (λ (t : List ℕ). let h : Held = record { at = old.at; bytes = old.bytes ++ t } in h) (nil_from_length came none) ∙ ap (λ (t : List ℕ). let h : Held = record { at = old.at; bytes = t } in h) (append-nil old.bytes)

by_end : (end : SessionEnd) (held : Held) (coming : Option (List ℕ)) → EndsInput end held → 0 < wanted held.bytes → IsOver coming → taken_of held < SESSION_MAX → MessageTaken (Err end) held coming
by_end End held coming none lacks over few = (none, over, few)
by_end (Cut at) held coming (same, some) lacks over few = (same, some, lacks, over, few)
by_end end held coming ends lacks over few = absurd ends

-- the input ended where the message lacks bytes
pub input_ended : (end : SessionEnd) (old new : Held) (left coming : Option (List ℕ)) (room count : ℕ) → Takes old left new coming room count → count ≡ 0 → EndsInput end new → 0 < wanted old.bytes → taken_of old < SESSION_MAX → MessageTaken (Err end) new coming
input_ended end old new left coming room count takes none ends lacks few =
    let same = none_came old new takes.came takes.held (takes.len ∙ none) in
    by_end end new coming ends (subst (λ (h : Held). 0 < wanted h.bytes) (sym same) lacks) (takes.last none) (subst (λ (h : Held). taken_of h < SESSION_MAX) (sym same) few)

pub turn_untaken : (end : SessionEnd) (old held : Held) (before : Scene) (coming : Option (List ℕ)) → old.bytes ≡ [] → prepend_known held.bytes coming ≡ prepend_known old.bytes before.coming → held.at ≡ old.at → MessageTaken (Err end) held coming → SessionEnds end old.at before (after_taking coming before) (decided_of end)
turn_untaken End old held before coming empty e p (none, over, few) =
    let is : before.coming ≡ coming = came_is old held before.coming coming empty e ∙ ap (λ (h : List ℕ). prepend_known h coming) none ∙ prepend_known-nil coming in
    (old.at, so_far_none old.at before (after_taking coming before) (nothing_exchanged before (after_taking coming before) is refl refl (λ d. refl)), over, omega (arith, few, p))
turn_untaken (Cut at) old held before coming empty e p (same, some, lacks, over, few) =
    let so_far = so_far_none old.at before (before_taking held.bytes (after_taking coming before)) (only_taken old held before coming empty e) in
    (held.bytes, so_far_at old.at at 0 before (before_taking held.bytes (after_taking coming before)) (same ∙ p) so_far, some, lacks, over, omega (arith, few, same))
turn_untaken Spent old held before coming empty e p (lacks, full) =
    (held.bytes, old.at, so_far_none old.at before (before_taking held.bytes (after_taking coming before)) (only_taken old held before coming empty e), omega (arith, full, p), lacks)
turn_untaken SourceFault old held before coming empty e p (lacks, few) =
    (held.bytes, old.at, so_far_none old.at before (before_taking held.bytes (after_taking coming before)) (only_taken old held before coming empty e), lacks, omega (arith, few, p))
turn_untaken end old held before coming empty e p m = absurd m

-- ---- its reply was put

-- what came is the request that was held
request_came : (old held : Held) (came coming : Option (List ℕ)) (request : Request) → old.bytes ≡ [] → prepend_known held.bytes coming ≡ prepend_known old.bytes came → held.bytes ≡ spell_request request → came ≡ prepend_known (spell_request request) coming
request_came old held came coming request empty e is = came_is old held came coming empty e ∙ ap (λ (t : List ℕ). prepend_known t coming) is

-- the scene before the refusal of a message was put
unput : (old held : Held) (before after : Scene) → old.bytes ≡ [] → prepend_known held.bytes after.coming ≡ prepend_known old.bytes before.coming → after.store ≡ before.store → Exchange before (with_put before.put (before_taking held.bytes after)) [] []
unput old held before after empty e same = nothing_exchanged before (with_put before.put (before_taking held.bytes after)) (came_is old held before.coming after.coming empty e) refl (ap (λ (s : StoreState). s.pass) same) (λ d. ap (λ (s : StoreState). number_at s.units d) same)

pub turn_sent : (reply : Reply) (end : Option SessionEnd) (old held new : Held) (before after : Scene) → old.bytes ≡ [] → prepend_known held.bytes after.coming ≡ prepend_known old.bytes before.coming → held.at ≡ old.at → taken_of held ≤ SESSION_MAX → Comes reply end held before.store new after.store → after.put ≡ append_known before.put (spell_reply reply) → TurnOut end old new before after
turn_sent reply None old held new before after empty e p most (request, goes_on, a) put = record {
  request = request;
  reply = reply;
  fits = a.fits;
  goes_on = goes_on;
  came = request_came old held before.coming after.coming request empty e a.bytes;
  put = put;
  answered = a.answered;
  next = a.next ∙ ap (λ (n : ℕ). let h : Held = record { at = n; bytes = [] } in h) (omega (arith, p, ap length a.bytes));
}
turn_sent reply (Some Quitted) old held new before after empty e p most (is, a) put =
    let answered = subst (λ (r : Reply). StoreAnswers before.store after.store Quit r) is a.answered in
    ([], [], exchange_one before after Quit Bye tt (request_came old held before.coming after.coming Quit empty e a.bytes) (put ∙ ap (λ (r : Reply). append_known before.put (spell_reply r)) is) answered, tt, refl, omega (arith, p, most, ap length a.bytes))
turn_sent reply (Some (Bad at code)) old held new before after empty e p most (is, same, refused, kept, store) put =
    let scene = with_put before.put (before_taking held.bytes after) in
    (held.bytes, before.put, 0, so_far_at old.at at 0 before scene (same ∙ p) (so_far_none old.at before scene (unput old held before after empty e store)), refused, put ∙ ap (λ (r : Reply). append_known before.put (spell_reply r)) is, refl, omega (arith, most, same))
turn_sent reply (Some end) old held new before after empty e p most c put = absurd c

-- ---- the sink failed

-- one request quits or not, and then nothing is held
one_quits : (request : Request) (held : List ℕ) → held ≡ [] → NoQuit (request ∷ []) ⊎ (EndsWithQuit (request ∷ []) × (held ≡ []))
one_quits (Put row) held none = inl (refl, tt)
one_quits (Delete key) held none = inl (refl, tt)
one_quits (Get key) held none = inl (refl, tt)
one_quits Sync held none = inl (refl, tt)
one_quits Quit held none = inr (([], refl, tt), none)

-- the sink took a front of the reply to a request
reply_failed : (old held new : Held) (before after : Scene) (request : Request) (reply : Reply) (front : ℕ) → old.bytes ≡ [] → prepend_known held.bytes after.coming ≡ prepend_known old.bytes before.coming → held.at ≡ old.at → taken_of held ≤ SESSION_MAX → IsAnswered held new before.store after.store request reply → after.put ≡ append_known before.put (take front (spell_reply reply)) → PutFailed old.at before after 1
reply_failed old held new before after request reply front empty e p most a put =
    let put_all = append_known before.put (spell_replies (reply ∷ [])) in
    record {
      asked = request ∷ [];
      answered = reply ∷ [];
      said = reply ∷ [];
      held = [];
      front = front;
      exchange = exchange_one before (with_put put_all (before_taking [] after)) request reply a.fits (request_came old held before.coming after.coming request empty e a.bytes ∙ ap (prepend_known (spell_request request)) (sym (prepend_known-nil after.coming))) (ap (append_known before.put) (append-nil (spell_reply reply))) a.answered;
      quits = one_quits request [] refl;
      taken = λ same few. refl;
      is_said = inl (omega arith, refl);
      put_is = put ∙ ap (λ (t : List ℕ). append_known before.put (take front t)) (sym (append-nil (spell_reply reply)));
      whole = omega arith;
      count = refl;
      most = omega (arith, p, most, ap length a.bytes, ap length (append-nil (spell_request request)));
    }

-- the sink took a front of the refusal of a message
refusal_failed : (old held : Held) (before after : Scene) (at code front : ℕ) → old.bytes ≡ [] → prepend_known held.bytes after.coming ≡ prepend_known old.bytes before.coming → held.at ≡ old.at → taken_of held ≤ SESSION_MAX → at ≡ held.at → IsRefused held.bytes code → after.store ≡ before.store → after.put ≡ append_known before.put (take front (spell_reply (BadMessage at code))) → PutFailed old.at before after 1
refusal_failed old held before after at code front empty e p most same refused store put =
    record {
      asked = [];
      answered = [];
      said = BadMessage at code ∷ [];
      held = held.bytes;
      front = front;
      exchange = subst (λ (p : Option (List ℕ)). Exchange before (with_put p (before_taking held.bytes after)) [] []) (sym (append_known-nil before.put)) (unput old held before after empty e store);
      quits = inl tt;
      taken = λ same few. absurd (omega (arith, same));
      is_said = inr (code, refused, ap (λ (place : ℕ). BadMessage place code ∷ []) (omega (arith, same, p)));
      put_is = put ∙ ap (λ (t : List ℕ). append_known before.put (take front t)) (sym (append-nil (spell_reply (BadMessage at code))));
      whole = omega arith;
      count = refl;
      most = omega (arith, p, most);
    }

pub turn_unsent : (reply : Reply) (end : Option SessionEnd) (old held new : Held) (before after : Scene) (front : ℕ) → old.bytes ≡ [] → prepend_known held.bytes after.coming ≡ prepend_known old.bytes before.coming → held.at ≡ old.at → taken_of held ≤ SESSION_MAX → Comes reply end held before.store new after.store → after.put ≡ append_known before.put (take front (spell_reply reply)) → SessionEnds SinkFault old.at before after 1
turn_unsent reply None old held new before after front empty e p most (request, goes_on, a) put = reply_failed old held new before after request reply front empty e p most a put
turn_unsent reply (Some Quitted) old held new before after front empty e p most (is, a) put = reply_failed old held new before after Quit reply front empty e p most a put
turn_unsent reply (Some (Bad at code)) old held new before after front empty e p most (is, same, refused, kept, store) put =
    refusal_failed old held before after at code front empty e p most same refused store (put ∙ ap (λ (r : Reply). append_known before.put (take front (spell_reply r))) is)
turn_unsent reply (Some end) old held new before after front empty e p most c put = absurd c
