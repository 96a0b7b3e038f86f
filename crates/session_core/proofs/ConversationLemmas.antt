-- How turns make a session. To know: `so_far_first`, `so_far_more`, `ended_after`, `passed_on`.
use Rattle.std.proofs.Common.{◌≡◌, ℕ, ◌+◌, ◌≤◌, ◌<◌, false, List, [], ◌∷◌, ◌++◌, length, take, Option, refl, sym, ap, subst, ◌∙◌, append_assoc, arith, inl, inr, ◌⊎◌}
use Rattle.std.specs.Io.KnownBytes.{prepend_known, append_known}
use Rattle.std.proofs.lemmas.List.{append-nil, length-append, take_all}
use Rattle.std.proofs.Math.Seq.{take-append-add}
use Rattle.rdb_base.proofs.Lists.{all-append}
use Rattle.disk_model.specs.Piles.{number_at}
use Rattle.history_core.specs.declared.request.Request.{Request}
use Rattle.history_core.specs.declared.request.Request.TheVariants.{Quit}
use Rattle.history_core.specs.declared.reply.Reply.{Reply}
use Rattle.history_core.specs.declared.reply.Reply.TheVariants.{Bye, BadMessage}
use Rattle.wire_protocol.specs.Grammar.{spell_request, spell_requests, spell_reply, spell_replies}
use Rattle.wire_protocol.specs.Messages.{Held, wanted}
use Rattle.session_core.specs.declared.limits.TheConstants.{SESSION_MAX}
use Rattle.session_core.specs.declared.session_end.SessionEnd.{SessionEnd}
use Rattle.session_core.specs.declared.session_end.SessionEnd.TheVariants.{End, Quit as Quitted, Bad, Cut, Spent, SourceFault, SinkFault, Memory}
use Rattle.session_core.specs.Conversations.{Scene, Exchange, SoFar, is_quit, NoQuit, EndsWithQuit, SessionEnds, PutFailed, Decided, but_last, place_after, before_taking, with_put}
use Rattle.session_core.specs.Turns.{TurnGoesOn}
use Rattle.session_core.proofs.CountLemmas.{told_by_one}
use Rattle.session_core.proofs.ExchangeLemmas.{prepend_known-nil, append_known-twice, spell_requests-append, spell_replies-append, exchange_one, Exchange-both, SoFar-both, so_far_none}

-- the loop begins where nothing came
pub so_far_first : (old new : Scene) (at : ℕ) → Exchange old new [] [] → at ≡ 0 → SoFar 0 old new at 0
so_far_first old new at e z = subst (λ (k : ℕ). SoFar 0 old new k 0) (sym z) (so_far_none 0 old new e)

one_turn : (old new : Held) (before after : Scene) → TurnGoesOn old new before after → SoFar old.at before after new.at 1
one_turn old new before after t = record {
  asked = t.request ∷ [];
  answered = t.reply ∷ [];
  exchange = exchange_one before after t.request t.reply t.fits t.came t.put t.answered;
  no_quit = (t.goes_on, tt);
  place = ap (λ (d : Held). d.at) t.next ∙ ap (λ (x : List ℕ). old.at + length x) (sym (append-nil (spell_request t.request)));
  count = refl;
}

-- one turn more
pub so_far_more : (from n : ℕ) (old new : Held) (first before after : Scene) → SoFar from first before old.at n → TurnGoesOn old new before after → SoFar from first after new.at (n + 1)
so_far_more from n old new first before after h t = SoFar-both from old.at new.at n 1 first before after h (one_turn old new before after t)

-- a turn that goes on takes a byte at least, and tells one failure at most
pub turn_counts : (old new : Held) (before after : Scene) → TurnGoesOn old new before after → (old.at < new.at) × (new.bytes ≡ []) × ((device : ℕ) → number_at after.store.units device ≤ number_at before.store.units device + 1)
turn_counts old new before after t =
    let at : new.at ≡ old.at + length (spell_request t.request) = ap (λ (d : Held). d.at) t.next in
    (omega (arith, at), ap (λ (d : Held). d.bytes) t.next, λ device. omega (arith, t.answered.units device, told_by_one device t.reply))

-- ---- a session whose last turn ended it

-- the replies but the last, of two lists
pub but_last-most : (said : List Reply) → length (spell_replies (but_last said)) ≤ length (spell_replies said)
but_last-most [] = omega arith
but_last-most (reply ∷ []) = omega arith
but_last-most (reply ∷ (next ∷ replies)) = omega (arith, but_last-most (next ∷ replies), length-append (spell_reply reply) (spell_replies (but_last (next ∷ replies))), length-append (spell_reply reply) (spell_replies (next ∷ replies)))

but_last-append : (first said : List Reply) → length (spell_replies (but_last (first ++ said))) ≤ length (spell_replies first) + length (spell_replies (but_last said))
but_last-append [] said = omega arith
but_last-append (reply ∷ []) [] = omega arith
but_last-append (reply ∷ []) (next ∷ said) = omega (arith, length-append (spell_reply reply) (spell_replies (but_last (next ∷ said))), length-append (spell_reply reply) (spell_replies []))
but_last-append (reply ∷ (next ∷ first)) said = omega (arith, but_last-append (next ∷ first) said, length-append (spell_reply reply) (spell_replies (but_last (next ∷ (first ++ said)))), length-append (spell_reply reply) (spell_replies (next ∷ first)))

put_failed_after : (from at n d : ℕ) (old mid new : Scene) → SoFar from old mid at n → PutFailed at mid new d → PutFailed from old new (n + d)
put_failed_after from at n d old mid new h g =
    let answered = h.answered ++ g.answered in
    let said = h.answered ++ g.said in
    let mid_put = append_known mid.put (spell_replies g.answered) in
    let all_put = append_known old.put (spell_replies answered) in
    let puts : mid_put ≡ all_put = ap (λ (p : Option (List ℕ)). append_known p (spell_replies g.answered)) h.exchange.replies ∙ append_known-twice old.put (spell_replies h.answered) (spell_replies g.answered) ∙ ap (append_known old.put) (sym (spell_replies-append h.answered g.answered)) in
    let both = Exchange-both old mid (with_put mid_put (before_taking g.held new)) h.asked g.asked h.answered g.answered h.exchange g.exchange in
    record {
      asked = h.asked ++ g.asked;
      answered = answered;
      said = said;
      held = g.held;
      front = length (spell_replies h.answered) + g.front;
      exchange = subst (λ (p : Option (List ℕ)). Exchange old (with_put p (before_taking g.held new)) (h.asked ++ g.asked) answered) puts both;
      quits = quits_after h.asked g.asked g.held h.no_quit g.quits;
      is_said = said_after h.answered (from + length (spell_requests (h.asked ++ g.asked))) (at + length (spell_requests g.asked)) (omega (arith, h.place, ap length (spell_requests-append h.asked g.asked), length-append (spell_requests h.asked) (spell_requests g.asked))) g.held g.answered g.said g.is_said;
      put_is = g.put_is
          ∙ ap (λ (p : Option (List ℕ)). append_known p (take g.front (spell_replies g.said))) h.exchange.replies
          ∙ append_known-twice old.put (spell_replies h.answered) (take g.front (spell_replies g.said))
          ∙ ap (append_known old.put) (sym (take-append-add (spell_replies h.answered) (spell_replies g.said) g.front) ∙ ap (take (length (spell_replies h.answered) + g.front)) (sym (spell_replies-append h.answered g.said)));
      whole = omega (arith, but_last-append h.answered g.said, g.whole);
      taken = taken_after h.answered g.answered g.said g.held g.front g.taken;
      count = omega (arith, h.count, g.count, length-append h.answered g.said);
      most = omega (arith, g.most, h.place, ap length (spell_requests-append h.asked g.asked), length-append (spell_requests h.asked) (spell_requests g.asked));
    }
  where
    quits_after : (first asked : List Request) (held : List ℕ) → NoQuit first → NoQuit asked ⊎ (EndsWithQuit asked × (held ≡ [])) → NoQuit (first ++ asked) ⊎ (EndsWithQuit (first ++ asked) × (held ≡ []))
    quits_after first asked held none (inl no_quit) = inl (all-append (λ (q : Request). is_quit q ≡ false) first asked none no_quit)
    quits_after first asked held none (inr ((front, is, no_quit), nothing)) = inr ((first ++ front, ap (λ (qs : List Request). first ++ qs) is ∙ sym (append_assoc first front (Quit ∷ [])), all-append (λ (q : Request). is_quit q ≡ false) first front none no_quit), nothing)

    taken_after : (first answered said : List Reply) (held : List ℕ) (front : ℕ)
        → (length said ≡ length answered → front < length (spell_replies said) → held ≡ [])
        → length (first ++ said) ≡ length (first ++ answered)
        → length (spell_replies first) + front < length (spell_replies (first ++ said)) → held ≡ []
    taken_after first answered said held front taken same few = taken
        (omega (arith, same, length-append first said, length-append first answered))
        (omega (arith, few, ap length (spell_replies-append first said), length-append (spell_replies first) (spell_replies said)))

    said_after : (first : List Reply) (place other : ℕ) → other ≡ place → (held : List ℕ) (answered said : List Reply) → Decided other held answered said → Decided place held (first ++ answered) (first ++ said)
    said_after first place other same held answered said (inl (lacks, e)) = inl (lacks, ap (λ (rs : List Reply). first ++ rs) e)
    said_after first place other same held answered said (inr (code, refused, e)) = inr (code, refused, ap (λ (rs : List Reply). first ++ rs) e ∙ sym (append_assoc first answered (BadMessage other code ∷ [])) ∙ ap (λ (at : ℕ). (first ++ answered) ++ BadMessage at code ∷ []) same)

pub ended_after : (end : SessionEnd) (from at n d : ℕ) (old mid new : Scene) → (end ≡ Memory → ⊥) → SoFar from old mid at n → SessionEnds end at mid new d → SessionEnds end from old new (n + d)
ended_after Quitted from at n d old mid new ne h (asked, answered, exchange, no_quit, count, most) =
    let both = Exchange-both old mid new h.asked (asked ++ Quit ∷ []) h.answered (answered ++ Bye ∷ []) h.exchange exchange in
    let all_asked : length (spell_requests ((h.asked ++ asked) ++ Quit ∷ [])) ≡ length (spell_requests (h.asked ++ (asked ++ Quit ∷ []))) = ap (λ (qs : List Request). length (spell_requests qs)) (append_assoc h.asked asked (Quit ∷ [])) in
    let one = subst (λ (qs : List Request). Exchange old new qs (h.answered ++ (answered ++ Bye ∷ []))) (sym (append_assoc h.asked asked (Quit ∷ []))) both in
    (h.asked ++ asked, h.answered ++ answered, subst (λ (rs : List Reply). Exchange old new ((h.asked ++ asked) ++ Quit ∷ []) rs) (sym (append_assoc h.answered answered (Bye ∷ []))) one, all-append (λ (q : Request). is_quit q ≡ false) h.asked asked h.no_quit no_quit, omega (arith, h.count, count, length-append h.answered answered), omega (arith, most, h.place, all_asked, ap length (spell_requests-append h.asked (asked ++ Quit ∷ [])), length-append (spell_requests h.asked) (spell_requests (asked ++ Quit ∷ []))))
ended_after End from at n d old mid new ne h g = (g.0, SoFar-both from at g.0 n d old mid new h g.1, g.2, g.3)
ended_after (Cut to) from at n d old mid new ne h g = (g.0, SoFar-both from at to n d old mid (before_taking g.0 new) h g.1, g.2, g.3, g.4, g.5)
ended_after (Bad to code) from at n d old mid new ne h g = (g.0, g.1, n + g.2, SoFar-both from at to n g.2 old mid (with_put g.1 (before_taking g.0 new)) h g.3, g.4, g.5, omega (arith, g.6), g.7)
ended_after Spent from at n d old mid new ne h g = (g.0, g.1, SoFar-both from at g.1 n d old mid (before_taking g.0 new) h g.2, g.3, g.4)
ended_after SourceFault from at n d old mid new ne h g = (g.0, g.1, SoFar-both from at g.1 n d old mid (before_taking g.0 new) h g.2, g.3, g.4)
ended_after SinkFault from at n d old mid new ne h g = put_failed_after from at n d old mid new h g
ended_after Memory from at n d old mid new ne h g = absurd (ne refl)

-- ---- a session that ended, and whose sink then failed to pass on what it held

-- the same exchange, where all its replies are said to be put
exchange_put : (old new : Scene) (held : List ℕ) (asked : List Request) (answered : List Reply) → Exchange old (before_taking held new) asked answered → Exchange old (with_put (append_known old.put (spell_replies answered)) (before_taking held new)) asked answered
exchange_put old new held asked answered e = record { requests = e.requests; came = e.came; replies = refl; answers = e.answers; units = e.units }

failed_from : (from : ℕ) (old new : Scene) (held : List ℕ) (asked : List Request) (answered : List Reply) (d : ℕ) → Exchange old (before_taking held new) asked answered → NoQuit asked ⊎ (EndsWithQuit asked × (held ≡ [])) → d ≡ length answered → 0 < wanted held → place_after from asked held ≤ SESSION_MAX → PutFailed from old new d
failed_from from old new held asked answered d e quits count lacks most = record {
  asked = asked;
  answered = answered;
  said = answered;
  held = held;
  front = length (spell_replies answered);
  exchange = exchange_put old new held asked answered e;
  quits = quits;
  is_said = inl (lacks, refl);
  put_is = e.replies ∙ ap (append_known old.put) (sym (take_all (length (spell_replies answered)) (spell_replies answered) (omega arith)));
  whole = but_last-most answered;
  taken = λ same few. absurd (omega (arith, few));
  count = count;
  most = most;
}

-- an exchange with nothing held after it
nothing_held : (old new : Scene) (asked : List Request) (answered : List Reply) → Exchange old new asked answered → Exchange old (before_taking [] new) asked answered
nothing_held old new asked answered e = record {
  requests = e.requests;
  came = e.came ∙ ap (prepend_known (spell_requests asked)) (sym (prepend_known-nil new.coming));
  replies = e.replies;
  answers = e.answers;
  units = e.units;
}

pub flush_failed : (end : SessionEnd) (from d : ℕ) (old new : Scene) → (end ≡ Memory → ⊥) → SessionEnds end from old new d → PutFailed from old new d
flush_failed Quitted from d old new ne (asked, answered, exchange, no_quit, count, most) =
    failed_from from old new [] (asked ++ Quit ∷ []) (answered ++ Bye ∷ []) d (nothing_held old new (asked ++ Quit ∷ []) (answered ++ Bye ∷ []) exchange) (inr ((asked, refl, no_quit), refl)) (omega (arith, count, length-append answered (Bye ∷ []))) (omega arith) most
flush_failed End from d old new ne (at, so_far, nothing, few) = failed_from from old new [] so_far.asked so_far.answered d (nothing_held old new so_far.asked so_far.answered so_far.exchange) (inl so_far.no_quit) so_far.count (omega arith) (omega (arith, few, so_far.place))
flush_failed (Cut at) from d old new ne (held, so_far, some, lacks, nothing, few) = failed_from from old new held so_far.asked so_far.answered d so_far.exchange (inl so_far.no_quit) so_far.count lacks (omega (arith, few, so_far.place))
flush_failed (Bad at code) from d old new ne (held, put, others, so_far, refused, put_is, count, most) =
    let answered = so_far.answered in
    let said = answered ++ BadMessage at code ∷ [] in
    let e = so_far.exchange in
    record {
      asked = so_far.asked;
      answered = answered;
      said = said;
      held = held;
      front = length (spell_replies said);
      exchange = record { requests = e.requests; came = e.came; replies = refl; answers = e.answers; units = e.units };
      quits = inl so_far.no_quit;
      is_said = inr (code, refused, ap (λ (place : ℕ). answered ++ BadMessage place code ∷ []) so_far.place);
      put_is = put_is
          ∙ ap (λ (p : Option (List ℕ)). append_known p (spell_reply (BadMessage at code))) e.replies
          ∙ append_known-twice old.put (spell_replies answered) (spell_reply (BadMessage at code))
          ∙ ap (append_known old.put) (ap (λ (t : List ℕ). spell_replies answered ++ t) (sym (append-nil (spell_reply (BadMessage at code)))) ∙ sym (spell_replies-append answered (BadMessage at code ∷ [])) ∙ sym (take_all (length (spell_replies said)) (spell_replies said) (omega arith)));
      whole = but_last-most said;
      taken = λ same few. absurd (omega (arith, few));
      count = omega (arith, count, so_far.count, length-append answered (BadMessage at code ∷ []));
      most = omega (arith, most, so_far.place);
    }
flush_failed Spent from d old new ne (held, at, so_far, full, lacks) = failed_from from old new held so_far.asked so_far.answered d so_far.exchange (inl so_far.no_quit) so_far.count lacks (omega (arith, full, so_far.place))
flush_failed SourceFault from d old new ne (held, at, so_far, lacks, few) = failed_from from old new held so_far.asked so_far.answered d so_far.exchange (inl so_far.no_quit) so_far.count lacks (omega (arith, few, so_far.place))
flush_failed SinkFault from d old new ne g = g
flush_failed Memory from d old new ne g = absurd (ne refl)

-- what the session ended as stands, unless the sink failed after all; nothing was put by that
pub passed_on : (end result : SessionEnd) (d : ℕ) (old new : Scene) (put : Option (List ℕ)) → put ≡ new.put → (end ≡ Memory → ⊥) → ((result ≡ SinkFault → ⊥) → result ≡ end) → SessionEnds end 0 old new d → SessionEnds result 0 old (with_put put new) d
passed_on end result d old new put same ne kept h = subst (λ (p : Option (List ℕ)). SessionEnds result 0 old (with_put p new) d) (sym same) (by_result result kept)
  where
    by_result : (result : SessionEnd) → ((result ≡ SinkFault → ⊥) → result ≡ end) → SessionEnds result 0 old new d
    by_result SinkFault kept = flush_failed end 0 d old new ne h
    by_result result kept = subst (λ (e : SessionEnd). SessionEnds e 0 old new d) (sym (kept (λ e. cc))) h
