-- Exchanges one after the other. To know: `nothing_exchanged`, `exchange_one`, `Exchange-both`, `SoFar-both`.
use Rattle.std.proofs.Common.{◌≡◌, ℕ, ◌+◌, false, List, [], ◌∷◌, ◌++◌, length, Option, Some, None, refl, sym, ap, subst, ◌∙◌, append_assoc, arith}
use Rattle.std.specs.Io.KnownBytes.{prepend_known, append_known}
use Rattle.std.proofs.lemmas.List.{append-nil, length-append}
use Rattle.disk_model.specs.Piles.{number_at}
use Rattle.rdb_base.proofs.Lists.{all-append}
use Rattle.history_core.specs.declared.request.Request.{Request}
use Rattle.history_core.specs.declared.reply.Reply.{Reply}
use Rattle.wire_protocol.specs.Grammar.{spell_request, spell_requests, spell_reply, spell_replies, IsRequest}
use Rattle.session_core.specs.Telling.{told_by_all, StoreAnswers}
use Rattle.session_core.specs.Conversations.{Scene, Exchange, SoFar, is_quit}
use Rattle.session_core.proofs.AnswerLemmas.{PassAnswers-none, PassAnswers-one, PassAnswers-both}
use Rattle.session_core.proofs.CountLemmas.{told_by_all-append}

-- ---- bytes that may be told

pub prepend_known-nil : (known : Option (List ℕ)) → prepend_known [] known ≡ known
prepend_known-nil None = refl
prepend_known-nil (Some bytes) = refl

pub append_known-nil : (known : Option (List ℕ)) → append_known known [] ≡ known
append_known-nil None = refl
append_known-nil (Some bytes) = ap (λ (t : List ℕ). Some t) (append-nil bytes)

pub prepend_known-twice : (a b : List ℕ) (known : Option (List ℕ)) → prepend_known a (prepend_known b known) ≡ prepend_known (a ++ b) known
prepend_known-twice a b None = refl
prepend_known-twice a b (Some bytes) = ap (λ (t : List ℕ). Some t) (sym (append_assoc a b bytes))

pub append_known-twice : (known : Option (List ℕ)) (a b : List ℕ) → append_known (append_known known a) b ≡ append_known known (a ++ b)
append_known-twice None a b = refl
append_known-twice (Some bytes) a b = ap (λ (t : List ℕ). Some t) (append_assoc bytes a b)

-- ---- lists of messages

pub spell_requests-append : (xs ys : List Request) → spell_requests (xs ++ ys) ≡ spell_requests xs ++ spell_requests ys
spell_requests-append [] ys = refl
spell_requests-append (x ∷ xs) ys = ap (λ (t : List ℕ). spell_request x ++ t) (spell_requests-append xs ys) ∙ sym (append_assoc (spell_request x) (spell_requests xs) (spell_requests ys))

pub spell_replies-append : (xs ys : List Reply) → spell_replies (xs ++ ys) ≡ spell_replies xs ++ spell_replies ys
spell_replies-append [] ys = refl
spell_replies-append (x ∷ xs) ys = ap (λ (t : List ℕ). spell_reply x ++ t) (spell_replies-append xs ys) ∙ sym (append_assoc (spell_reply x) (spell_replies xs) (spell_replies ys))

-- ---- exchanges

-- nothing came, nothing was put, and nothing moved
pub nothing_exchanged : (old new : Scene) → old.coming ≡ new.coming → new.put ≡ old.put → new.store.pass ≡ old.store.pass → ((device : ℕ) → number_at new.store.units device ≡ number_at old.store.units device) → Exchange old new [] []
nothing_exchanged old new came put pass units = record {
  requests = tt;
  came = came ∙ sym (prepend_known-nil new.coming);
  replies = put ∙ sym (append_known-nil old.put);
  answers = PassAnswers-none old.store.pass new.store.pass pass;
  units = λ device. omega (arith, units device);
}

-- one request and its reply
pub exchange_one : (old new : Scene) (request : Request) (reply : Reply) → IsRequest request → old.coming ≡ prepend_known (spell_request request) new.coming → new.put ≡ append_known old.put (spell_reply reply) → StoreAnswers old.store new.store request reply → Exchange old new (request ∷ []) (reply ∷ [])
exchange_one old new request reply fits came put answered = record {
  requests = (fits, tt);
  came = came ∙ ap (λ (t : List ℕ). prepend_known t new.coming) (sym (append-nil (spell_request request)));
  replies = put ∙ ap (append_known old.put) (sym (append-nil (spell_reply reply)));
  answers = PassAnswers-one old.store.pass new.store.pass request reply answered.answer;
  units = λ device. omega (arith, answered.units device);
}

pub Exchange-both : (old mid new : Scene) (qs ps : List Request) (rs ss : List Reply) → Exchange old mid qs rs → Exchange mid new ps ss → Exchange old new (qs ++ ps) (rs ++ ss)
Exchange-both old mid new qs ps rs ss h g = record {
  requests = all-append IsRequest qs ps h.requests g.requests;
  came = h.came ∙ ap (prepend_known (spell_requests qs)) g.came ∙ prepend_known-twice (spell_requests qs) (spell_requests ps) new.coming ∙ ap (λ (t : List ℕ). prepend_known t new.coming) (sym (spell_requests-append qs ps));
  replies = g.replies ∙ ap (λ (t : Option (List ℕ)). append_known t (spell_replies ss)) h.replies ∙ append_known-twice old.put (spell_replies rs) (spell_replies ss) ∙ ap (append_known old.put) (sym (spell_replies-append rs ss));
  answers = PassAnswers-both old.store.pass mid.store.pass new.store.pass qs ps rs ss h.answers g.answers;
  units = λ device. omega (arith, h.units device, g.units device, told_by_all-append device rs ss);
}

-- a session so far that began where another one stood
pub SoFar-both : (from at to n m : ℕ) (old mid new : Scene) → SoFar from old mid at n → SoFar at mid new to m → SoFar from old new to (n + m)
SoFar-both from at to n m old mid new h g = record {
  asked = h.asked ++ g.asked;
  answered = h.answered ++ g.answered;
  exchange = Exchange-both old mid new h.asked g.asked h.answered g.answered h.exchange g.exchange;
  no_quit = all-append (λ (q : Request). is_quit q ≡ false) h.asked g.asked h.no_quit g.no_quit;
  place = omega (arith, h.place, g.place, ap length (spell_requests-append h.asked g.asked), length-append (spell_requests h.asked) (spell_requests g.asked));
  count = omega (arith, h.count, g.count, length-append h.answered g.answered);
}

-- a session of which nothing came yet
pub so_far_none : (from : ℕ) (old new : Scene) → Exchange old new [] [] → SoFar from old new from 0
so_far_none from old new e = record { asked = []; answered = []; exchange = e; no_quit = tt; place = omega arith; count = refl }
