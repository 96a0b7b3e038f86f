-- What came and what was put in a session, up to its end.
use Rattle.std.specs.Prelude.{◌≡◌, ◌⊎◌, ℕ, ◌+◌, ◌<◌, ◌≤◌, List, [], ◌∷◌, ◌++◌, length, take, Option, Some, Bool, true, false, IfSome}
use Rattle.std.specs.List.{AllByRecursion}
use Rattle.std.specs.Io.KnownBytes.{prepend_known, append_known}
use Rattle.disk_model.specs.Piles.{Units, number_at}
use Rattle.history_core.specs.declared.request.Request.{Request}
use Rattle.history_core.specs.declared.request.Request.TheVariants.{Put, Delete, Get, Sync, Quit}
use Rattle.history_core.specs.declared.reply.Reply.{Reply}
use Rattle.history_core.specs.declared.reply.Reply.TheVariants.{Bye, BadMessage}
use Rattle.wire_protocol.specs.Grammar.{spell_requests, spell_reply, spell_replies, IsRequest}
use Rattle.wire_protocol.specs.Messages.{wanted, IsWithin}
use Rattle.wire_protocol.specs.Decoding.{refusal}
use Rattle.session_core.specs.declared.limits.TheConstants.{SESSION_MAX}
use Rattle.session_core.specs.declared.session_end.SessionEnd.{SessionEnd}
use Rattle.session_core.specs.declared.session_end.SessionEnd.TheVariants.{End, Quit as Quitted, Bad, Cut, Spent, SourceFault, SinkFault, Memory}
use Rattle.history_core.specs.Passes.{PassState}
use Rattle.session_core.specs.Answering.{PassAnswers}
use Rattle.link_model.specs.declared.source.Source as sources
use Rattle.link_model.specs.declared.sink.Sink as sinks
use Rattle.session_core.specs.declared.answers.Answers as stores
use Rattle.session_core.specs.Telling.{told_by_all, StoreState, store_of}

-- what a session meets: the bytes to come and the bytes put, where contracts can see them, and the store
pub record Scene : Type 0 where
  pub coming : Option (List ℕ)
  pub put : Option (List ℕ)
  pub store : StoreState

-- a scene of these parts
abbrev pub scene_of : Option (List ℕ) → Option (List ℕ) → PassState → List (Option Units) → Scene
scene_of coming put pass units =
    record { coming = coming; put = put; store = record { pass = pass; units = units } }

-- the scene of a store, a source and a sink that stand so, with these units
abbrev pub scene_at : {A Pass R W : Type 0} → stores.Ghosts A Pass → sources.Ghosts R → sinks.Ghosts W →
    Pass → R → W → List (Option Units) → Scene
scene_at store source sink pass from into units =
    record { coming = source.left from; put = sink.written into; store = store_of store pass units }

-- the same, before these bytes were taken
abbrev pub before_taking : List ℕ → Scene → Scene
before_taking held scene = record scene { coming = prepend_known held scene.coming }

-- the same, where other bytes were put
abbrev pub with_put : Option (List ℕ) → Scene → Scene
with_put put scene = record scene { put = put }

-- these requests came and these replies were put, in order, and the replies tell how the pass moved
pub record Exchange (old new : Scene) (asked : List Request) (answered : List Reply) : Type 0 where
  pub requests : AllByRecursion IsRequest asked
  pub came : old.coming ≡ prepend_known (spell_requests asked) new.coming
  pub replies : new.put ≡ append_known old.put (spell_replies answered)
  pub answers : PassAnswers old.store.pass asked answered new.store.pass
  pub units : (device : ℕ) →
      number_at new.store.units device ≡ number_at old.store.units device + told_by_all device answered

-- the request asks the session to end
abbrev pub is_quit : Request → Bool
is_quit (Put row) = false
is_quit (Delete key) = false
is_quit (Get key) = false
is_quit Sync = false
is_quit Quit = true

-- none of these asks the session to end
abbrev pub NoQuit : List Request → Type 0
NoQuit asked = AllByRecursion (λ request. is_quit request ≡ false) asked

-- the last of these asks the session to end, and none before it does
abbrev pub EndsWithQuit : List Request → Type 0
EndsWithQuit asked = (front : List Request) × (asked ≡ front ++ Quit ∷ []) × NoQuit front

-- A session so far that began at a place of the input: where the next message begins, and how many replies were
-- decided.
pub record SoFar (from : ℕ) (old new : Scene) (at decided : ℕ) : Type 0 where
  pub asked : List Request
  pub answered : List Reply
  pub exchange : Exchange old new asked answered
  pub no_quit : NoQuit asked
  pub place : at ≡ from + length (spell_requests asked)
  pub count : decided ≡ length answered

-- where contracts can see the input, no more of it is to come
abbrev pub IsOver : Option (List ℕ) → Type 0
IsOver coming = IfSome coming (λ bytes. bytes ≡ [])

-- the same of a scene
abbrev pub NothingToCome : Scene → Type 0
NothingToCome scene = IsOver scene.coming

-- these bytes of a message have this refusal
pub record IsRefused (held : List ℕ) (code : ℕ) : Type 0 where
  pub whole : wanted held ≡ 0
  pub code_is : refusal held ≡ Some code
  pub within : IsWithin held

-- The replies that were decided, where these bytes are held of the message at this place: those to the requests before
-- it, if the message lacks bytes; and its refusal after them, if it was refused.
abbrev pub Decided : ℕ → List ℕ → List Reply → List Reply → Type 0
Decided place held answered said =
    ((0 < wanted held) × (said ≡ answered))
    ⊎ ((code : ℕ) × IsRefused held code × (said ≡ answered ++ BadMessage place code ∷ []))

-- these replies without the last one
abbrev pub but_last : List Reply → List Reply
but_last [] = []
but_last (reply ∷ []) = []
but_last (reply ∷ (next ∷ replies)) = reply ∷ but_last (next ∷ replies)

-- the place of the input where so many bytes of a message are held, after these requests
abbrev pub place_after : ℕ → List Request → List ℕ → ℕ
place_after from asked held = from + length (spell_requests asked) + length held

-- A session whose sink failed: a front of what was to be put is there, and in it each reply but the last. Nothing was
-- taken after a QUIT, nor after a reply that was cut.
pub record PutFailed (from : ℕ) (old new : Scene) (decided : ℕ) : Type 0 where
  pub asked : List Request
  pub answered : List Reply
  pub said : List Reply
  pub held : List ℕ
  pub front : ℕ
  pub exchange :
      Exchange old (with_put (append_known old.put (spell_replies answered)) (before_taking held new)) asked answered
  pub quits : NoQuit asked ⊎ (EndsWithQuit asked × (held ≡ []))
  pub is_said : Decided (from + length (spell_requests asked)) held answered said
  pub put_is : new.put ≡ append_known old.put (take front (spell_replies said))
  pub whole : length (spell_replies (but_last said)) ≤ front
  pub taken : length said ≡ length answered → front < length (spell_replies said) → held ≡ []
  pub count : decided ≡ length said
  pub most : place_after from asked held ≤ SESSION_MAX

-- How a session ended that began at this place, and how many replies were decided in it. It took at most SESSION_MAX
-- bytes: just as many if it ended as Spent, and fewer if its source ended or failed.
abbrev pub SessionEnds : SessionEnd → ℕ → Scene → Scene → ℕ → Type 0
-- QUIT was read and answered, and no request before it was a QUIT
SessionEnds Quitted from old new decided =
    (asked : List Request)
    × (answered : List Reply)
    × Exchange old new (asked ++ Quit ∷ []) (answered ++ Bye ∷ [])
    × NoQuit asked
    × (decided ≡ length answered + 1)
    × (place_after from (asked ++ Quit ∷ []) [] ≤ SESSION_MAX)
-- the source ended between messages
SessionEnds End from old new decided = (at : ℕ) × SoFar from old new at decided × NothingToCome new × (at < SESSION_MAX)
-- it ended inside a message
SessionEnds (Cut at) from old new decided =
    (held : List ℕ)
    × SoFar from old (before_taking held new) at decided
    × (0 < length held)
    × (0 < wanted held)
    × NothingToCome new
    × (at + length held < SESSION_MAX)
-- a message was refused, and the refusal put
SessionEnds (Bad at code) from old new decided =
    (held : List ℕ)
    × (put : Option (List ℕ))
    × (others : ℕ)
    × SoFar from old (with_put put (before_taking held new)) at others
    × IsRefused held code
    × (new.put ≡ append_known put (spell_reply (BadMessage at code)))
    × (decided ≡ others + 1)
    × (at + length held ≤ SESSION_MAX)
-- as many bytes were taken as a session takes, and a message still lacks some
SessionEnds Spent from old new decided =
    (held : List ℕ)
    × (at : ℕ)
    × SoFar from old (before_taking held new) at decided
    × (at + length held ≡ SESSION_MAX)
    × (0 < wanted held)
-- the source failed where bytes of a message were lacking
SessionEnds SourceFault from old new decided =
    (held : List ℕ)
    × (at : ℕ)
    × SoFar from old (before_taking held new) at decided
    × (0 < wanted held)
    × (at + length held < SESSION_MAX)
-- the sink failed
SessionEnds SinkFault from old new decided = PutFailed from old new decided
-- nothing happened
SessionEnds Memory from old new decided = Exchange old new [] [] × (decided ≡ 0)

-- how many replies were decided in the turn that ended a session so
abbrev pub decided_of : SessionEnd → ℕ
decided_of Quitted = 1
decided_of (Bad at code) = 1
decided_of SinkFault = 1
decided_of End = 0
decided_of (Cut at) = 0
decided_of Spent = 0
decided_of SourceFault = 0
decided_of Memory = 0
