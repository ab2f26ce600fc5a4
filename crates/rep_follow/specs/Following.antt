-- How the items of an order are followed.
use Rattle.std.specs.Prelude.{◌≡◌, ◌≢◌, ◌⊎◌, ℕ, ◌+◌, ◌-◌, ◌^◌, ◌≤◌, Bool, true, List, [], ◌∷◌, ◌++◌, length, Option, None, Some, Result, Ok, Err}
use Rattle.std.specs.Io.KnownBytes.{Consumes, IsAtEnd}
use Rattle.rep_types.specs.declared.item.Item.{Item}
use Rattle.rep_types.specs.declared.refusal.Refusal.{Refusal}
use Rattle.rep_types.specs.declared.refusal.Refusal.TheVariants.{StreamFault, Exhausted}
use Rattle.rep_disk.specs.declared.disk.Disk.{Ghosts}
use Rattle.rep_lines.specs.Lines.{HasNoFeed}
use Rattle.rep_requests.specs.Requests.{requested}
use Rattle.rep_replica.specs.Replicas.{Replica, facts_of}
use Rattle.rep_follow.specs.declared.following.End.{End}
use Rattle.rep_follow.specs.declared.following.End.TheVariants.{Line, Text}
use Rattle.rep_follow.specs.declared.counts.Counts.{Counts}
use Rattle.rep_follow.specs.Committing.{Goes, IsHeldUp}
use Rattle.rep_follow.specs.Taking.{item_at, AreItems, text_of, EndsBy}

-- where they ended, or why not
abbrev pub ended : Result End Refusal → Result (Option End) Refusal
ended (Ok e) = Ok (Some e)
ended (Err e) = Err e

abbrev pub went : Result (Option End) Refusal → Result (Unit {0}) Refusal
went (Ok e) = Ok tt
went (Err e) = Err e

-- The lines that were handed out: those of the items that were taken, and at most one more.
abbrev pub HandedOut : List (List ℕ) → List ℕ → List (List ℕ) → Result (Option End) Refusal → Type 0
HandedOut lines last out (Ok None) = out ≡ lines
HandedOut lines last out (Ok (Some Text)) = out ≡ lines
HandedOut lines last out (Ok (Some Line)) = out ≡ lines ++ last ∷ []
HandedOut lines last out (Err e) = (out ≡ lines) ⊎ (out ≡ lines ++ last ∷ [])

-- So many bytes, or more, were read of a source.
abbrev pub HasRead : ℕ → Option (List ℕ) → Option (List ℕ) → Type 0
HasRead least before after = (bytes : List ℕ) × (least ≤ length bytes) × Consumes before after bytes

-- Why nothing more is done behind the items that were taken, as the replica then stands: a stream failed; what was taken did not become durable; or
-- the source was asked for more as often as 64 bits can count, and gave something each time.
abbrev pub IsNotFollowed : {D : Type 0} → Ghosts D → Replica D → Option (List ℕ) → Option (List ℕ) → Refusal → Type 0
IsNotFollowed g new asked rest e = (e ≡ StreamFault) ⊎ (IsHeldUp g new e ⊎ ((e ≡ Exhausted) × HasRead (2 ^ 64 - 1) asked rest))

-- Where the items end: at a line that is no next item; or at the end of the text, behind its last line feed, and all is durable then. With a refusal
-- either the line that was handed out last is an item that is not taken, or none was handed out behind the items.
abbrev pub EndsAt : {D : Type 0} → Ghosts D → ℕ → Replica D → List ℕ → Option (List ℕ) → Option (List ℕ) → List (List ℕ) → List ℕ → List (List ℕ) → Result (Option End) Refusal → Type 0
EndsAt g next new left asked rest lines last out (Ok None) = ((facts_of g new).ahead ≡ []) × HasRead 1 asked rest
EndsAt g next new left asked rest lines last out (Ok (Some Text)) = HasNoFeed left × IsAtEnd rest × ((facts_of g new).ahead ≡ [])
EndsAt g next new left asked rest lines last out (Ok (Some Line)) = item_at next (requested 0 last) ≡ None
EndsAt g next new left asked rest lines last out (Err e) = ((out ≡ lines ++ last ∷ []) × EndsBy g new next left last (Err e)) ⊎ ((out ≡ lines) × IsNotFollowed g new asked rest e)

-- The items of the first lines of the text were taken, from this seqno on, in the lines' order, each once; what became durable was told, and all
-- of it where more was asked for. The source had `asked` left before, where that is known, and has `rest` left now.
pub record FollowsItems {D : Type 0} (g : Ghosts D) (first : ℕ) (old new : Replica D) (was now : Counts) (left : List ℕ) (asked rest : Option (List ℕ)) (text behind : Option (List ℕ)) (last : List ℕ) (before after : Option (List ℕ)) (result : Result (Option End) Refusal) (next : ℕ) : Type 0 where
  pub lines : List (List ℕ)
  pub items : List Item
  pub are : AreItems first lines items
  pub next_is : next ≡ first + length items
  pub out : List (List ℕ)
  pub out_is : HandedOut lines last out result
  pub handed : Consumes text behind (text_of out)
  pub goes : Goes g old new items lines was now before after (went result)
  pub ends : EndsAt g next new left asked rest lines last out result

-- A stream fault is told only of a source or of a writer that has failed, and any other answer leaves both notes as they were.
pub record NotesEither {T : Type 0} (source source' writer writer' : Bool) (result : Result T Refusal) : Type 0 where
  pub fault : result ≡ Err StreamFault → (source' ≡ true) ⊎ (writer' ≡ true)
  pub source_fine : result ≢ Err StreamFault → source' ≡ source
  pub writer_fine : result ≢ Err StreamFault → writer' ≡ writer
