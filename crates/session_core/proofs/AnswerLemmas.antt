-- The operations that replies tell, one list after another. To know: `PassAnswers-none`, `PassAnswers-one`,
-- `PassAnswers-both`, `operations_are`.
use Rattle.std.proofs.Common.{◌≡◌, ℕ, List, [], ◌∷◌, ◌++◌, Option, Some, None, refl, sym, ap, subst, ◌∙◌}
use Rattle.history_core.specs.declared.request.Request.{Request}
use Rattle.history_core.specs.declared.reply.Reply.{Reply}
use Rattle.history_core.specs.Operations.{Operation, operation_of, AreOperations}
use Rattle.history_core.specs.Passes.{PassState, PassMovesAll}
use Rattle.session_core.specs.Answering.{MovesBy, PassAnswers, with_operation, operations_of}

-- ---- lists of operations

AreOperations-append : (qs ps : List Request) (rs ss : List Reply) (os us : List Operation) → AreOperations qs rs os → AreOperations ps ss us → AreOperations (qs ++ ps) (rs ++ ss) (os ++ us)
AreOperations-append [] ps [] ss [] us h g = g
AreOperations-append (q ∷ qs) ps (r ∷ rs) ss (o ∷ os) us h g = (h.0, AreOperations-append qs ps rs ss os us h.1 g)
AreOperations-append qs ps rs ss os us h g = absurd h

PassMovesAll-append : (a b c : PassState) (os us : List Operation) → PassMovesAll a os b → PassMovesAll b us c → PassMovesAll a (os ++ us) c
PassMovesAll-append a b c [] us h g = subst (λ (p : PassState). PassMovesAll p us c) h g
PassMovesAll-append a b c (o ∷ os) us h g = (h.0, h.1, PassMovesAll-append h.0 b c os us h.2 g)

-- ---- answers

pub PassAnswers-none : (old new : PassState) → new ≡ old → PassAnswers old [] [] new
PassAnswers-none old new same = record { operations = []; told = tt; moves = same }

pub PassAnswers-one : (old new : PassState) (request : Request) (reply : Reply) → MovesBy (operation_of request reply) old new → PassAnswers old (request ∷ []) (reply ∷ []) new
PassAnswers-one old new request reply moves = by_operation (operation_of request reply) refl moves
  where
    by_operation : (told : Option Operation) → operation_of request reply ≡ told → MovesBy told old new → PassAnswers old (request ∷ []) (reply ∷ []) new
    by_operation (Some operation) is h = record { operations = operation ∷ []; told = (is, tt); moves = (new, h, refl) }
    by_operation None is h = absurd h

pub PassAnswers-both : (a b c : PassState) (qs ps : List Request) (rs ss : List Reply) → PassAnswers a qs rs b → PassAnswers b ps ss c → PassAnswers a (qs ++ ps) (rs ++ ss) c
PassAnswers-both a b c qs ps rs ss h g = record {
  operations = h.operations ++ g.operations;
  told = AreOperations-append qs ps rs ss h.operations g.operations h.told g.told;
  moves = PassMovesAll-append a b c h.operations g.operations h.moves g.moves;
}

-- the operations of replies are those that they tell
pub operations_are : (qs : List Request) (rs : List Reply) (os : List Operation) → AreOperations qs rs os → os ≡ operations_of qs rs
operations_are [] [] [] h = refl
operations_are (q ∷ qs) (r ∷ rs) (o ∷ os) h =
    ap (λ (us : List Operation). o ∷ us) (operations_are qs rs os h.1) ∙ ap (λ (told : Option Operation). with_operation told (operations_of qs rs)) (sym h.0)
operations_are qs rs os h = absurd h
