use Rattle.std.proofs.Common.{◌≡◌, ℕ, List, Result, Ok, Err, ap, subst, refl, ◌∙◌, arith}
use Rattle.std.specs.Prelude.{IfOk, IsOk, IsErrOf, [], ◌∷◌}
use Rattle.history_core.specs.declared.request.Request.TheVariants.{Sync, Quit}
use Rattle.wire_protocol.specs.declared.body_error.BodyError.TheVariants.{Memory}
use Rattle.history_core.specs.declared.request.Request.{Request}
use Rattle.wire_protocol.specs.declared.body_error.BodyError.{BodyError}
use Rattle.rdb_base.specs.Bytes.{AreBytes}
use Rattle.wire_protocol.specs.Grammar.{request_body, IsRequest}
use Rattle.wire_protocol.specs.Reading.{Gives, SpellsRequest, request_at}
use Rattle.wire_protocol.proofs.ReadingLemmas.{request_takes, request_again}
use Rattle.wire_protocol.proofs.reading.request_of.Goals as goal

is_found : (body : List ℕ) (r : Result Request BodyError) → AreBytes body → Gives (λ x. x) r (request_at body) → IfOk r (λ request. (body ≡ request_body request) × IsRequest request)
is_found body (Ok request) fits given = request_takes body request fits given
is_found body (Err e) fits given = tt

pub returns-clause-found : goal.returns-clause-found
returns-clause-found c = is_found c.args.body.now c.body_of.result (λ i. omega (arith, c.type_inv.body i)) c.body_of.ensures.exact

pub returns-clause-only : goal.returns-clause-only
returns-clause-only c = λ request fits e. subst (λ read. Gives (λ x. x) c.body_of.result read) (ap request_at e ∙ request_again request fits) c.body_of.ensures.exact

spells : (body : List ℕ) (read : Result Request ℕ) → request_at body ≡ read → AreBytes body → IsOk read → (body ≡ request_body Sync → ⊥) → (body ≡ request_body Quit → ⊥) → SpellsRequest body
spells body (Ok request) e fits ok not_sync not_quit =
    let found = request_takes body request fits e in
    (request, found.0, found.1, (λ q. not_sync (found.0 ∙ ap request_body q)), λ q. not_quit (found.0 ∙ ap request_body q))
spells body (Err code) e fits ok not_sync not_quit = absurd cc

-- bytes that always read as this request are never out of memory
not_these : (body these : List ℕ) (request : Request) (r : Result Request BodyError) → (body ≡ these → r ≡ Ok request) → IsErrOf r Memory → body ≡ these → ⊥
not_these body these request r always is_memory e = let q : r ≡ Ok request = always e in cc

pub returns-clause-memory : goal.returns-clause-memory
returns-clause-memory c = λ is_memory. spells c.args.body.now (request_at c.args.body.now) refl (λ i. omega (arith, c.type_inv.body i)) (c.body_of.ensures.memory is_memory)
    (not_these c.args.body.now (request_body Sync) Sync c.body_of.result c.body_of.ensures.sync is_memory)
    (not_these c.args.body.now (request_body Quit) Quit c.body_of.result c.body_of.ensures.quit is_memory)
