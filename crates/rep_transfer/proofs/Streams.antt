-- What is known of a stream whose bytes are known, and of a room that is filled from it.
use Rattle.std.proofs.Common.{◌≡◌, ℕ, ◌+◌, ◌≤◌, ◌<◌, List, ◌++◌, length, take, Option, None, Some, Ok, refl, sym, ap, subst, ◌∙◌, arith, length-append}
use Rattle.std.specs.Prelude.{IfSome}
use Rattle.std.specs.Io.KnownBytes.{Consumes}
use Rattle.std.proofs.KnownBytes.{Consumes-trans}
use Rattle.std.proofs.Math.Seq.{take-append-add, take-append-le, length-take-le, take-take}
use Rattle.std.proofs.lemmas.List.{take_at, take_all}
use Rattle.rep_forms.specs.Forms.{Form}
use Rattle.rep_transfer.specs.declared.pieces.TheConstants.{PIECE}
use Rattle.rep_transfer.specs.Pieces.{IsPaced, IsWhole}
use Rattle.rep_transfer.specs.Taking.{BeginWithNone, TakesOne}

-- what holds of a value where there is one
pub at_some : {A : Type 0} (P : A → Type 0) (o : Option A) (x : A) → o ≡ Some x → IfSome o P → P x
at_some P o x is h = subst (λ found. IfSome found P) is h

-- ---- a room that is filled part by part

-- what was read behind the front of a room
pub read_behind : (room buf behind : List ℕ) (count taken : ℕ) → count ≤ length room → taken ≤ length buf → take (count + taken) (take count room ++ (buf ++ behind)) ≡ take count room ++ take taken buf
read_behind room buf behind count taken within few =
    let front = length-take-le count room within in
    ap (λ n. take (n + taken) (take count room ++ (buf ++ behind))) (sym front) ∙ take-append-add (take count room) (buf ++ behind) taken ∙ ap (λ rest. take count room ++ rest) (take-append-le taken buf behind few)

pub more_read : (a b d : Option (List ℕ)) (room buf behind : List ℕ) (count taken : ℕ) → count ≤ length room → taken ≤ length buf → Consumes a b (take count room) → Consumes b d (take taken buf)
    → (count + taken ≤ length (take count room ++ (buf ++ behind))) × Consumes a d (take (count + taken) (take count room ++ (buf ++ behind)))
more_read a b d room buf behind count taken within few first second = (
  omega (arith, few, length-take-le count room within, length-append (take count room) (buf ++ behind), length-append buf behind),
  subst (Consumes a d) (sym (read_behind room buf behind count taken within few)) (Consumes-trans a b d (take count room) (take taken buf) first second),
)

-- two parts of a room
pub both_parts : (one behind two more : List ℕ) (head : ℕ) → length one ≡ head → take (head + length two) (take head (one ++ behind) ++ (two ++ more)) ≡ one ++ two
both_parts one behind two more head size =
    let front : take head (one ++ behind) ≡ one = take_at one behind head size in
    ap (λ part. take (head + length two) (part ++ (two ++ more))) front ∙ ap (λ n. take (n + length two) (one ++ (two ++ more))) (sym size)
    ∙ take-append-add one (two ++ more) (length two) ∙ ap (λ rest. one ++ rest) (take_at two more (length two) refl)

pub both_read : (a b d : Option (List ℕ)) (one behind two more : List ℕ) (head n : ℕ) → length one ≡ head → length two ≡ n → Consumes a b one → Consumes b d two → Consumes a d (take (head + n) (take head (one ++ behind) ++ (two ++ more)))
both_read a b d one behind two more head n size last first second =
    subst (Consumes a d) (sym (both_parts one behind two more head size) ∙ ap (λ k. take (head + k) (take head (one ++ behind) ++ (two ++ more))) last) (Consumes-trans a b d one two first second)

-- ---- what the front of the bytes says of a piece

-- fronts of the same bytes are the same
fronts : (a b c d : List ℕ) (n : ℕ) → a ++ b ≡ c ++ d → n ≤ length a → n ≤ length c → take n a ≡ take n c
fronts a b c d n e one two = sym (take-append-le n a b one) ∙ ap (take n) e ∙ take-append-le n c d two

module _ {A : Type 0} (F : Form A) (head : ℕ) (more : List ℕ → ℕ) (paced : IsPaced F head more) where
  -- the first bytes are those of the spelling, so that they say how long it is
  told : (first rest : List ℕ) (x : A) (behind : List ℕ) → length first ≡ head → F.Fits x → first ++ rest ≡ F.spell x ++ behind → length (F.spell x) ≡ head + more first
  told first rest x behind size fits e =
      let long = paced.size x fits in
      let same : take head first ≡ take head (F.spell x) = fronts first rest (F.spell x) behind head e (omega (arith, size)) (omega (arith, long)) in
      long ∙ ap (λ bytes. head + more bytes) (sym same ∙ take_all head first (omega (arith, size)))

  -- more than there is room for
  pub too_long : (a b : Option (List ℕ)) (first : List ℕ) → length first ≡ head → PIECE < head + more first → Consumes a b first → IfSome a (BeginWithNone F.Fits F.spell)
  too_long None b first size long taken = tt
  too_long (Some xs) None first size long taken = absurd taken
  too_long (Some xs) (Some ys) first size long taken = λ x rest fits e. omega (arith, long, paced.room x fits, told first ys x rest size fits (sym taken ∙ e))

  -- fewer than the first ones say
  pub too_short : (a b : Option (List ℕ)) (first : List ℕ) (n : ℕ) → length first ≡ head → n ≡ more first → Consumes a b first → IfSome b (λ ys. length ys < n) → IfSome a (BeginWithNone F.Fits F.spell)
  too_short None b first n size is taken short = tt
  too_short (Some xs) None first n size is taken short = absurd taken
  too_short (Some xs) (Some ys) first n size is taken short = λ x rest fits e.
      omega (arith, short, is, size, told first ys x rest size fits (sym taken ∙ e), ap length (sym taken ∙ e), length-append first ys, length-append (F.spell x) rest)

  -- fewer than those that say how many there are
  pub cut_short : (a : Option (List ℕ)) (n : ℕ) → n ≡ head → IfSome a (λ xs. length xs < n) → IfSome a (BeginWithNone F.Fits F.spell)
  cut_short None n is short = tt
  cut_short (Some xs) n is short = λ x rest fits e. omega (arith, short, is, paced.size x fits, ap length e, length-append (F.spell x) rest)

  -- as many as they say, which spell no piece
  pub none_whole : (a b left : Option (List ℕ)) (part : List ℕ) → length part ≡ head + more (take head part) → Consumes a b part → IsWhole F part None → IfSome a (λ bytes. TakesOne F.Fits F.spell bytes left (Ok None))
  none_whole None b left part size taken none = tt
  none_whole (Some xs) None left part size taken none = absurd taken
  none_whole (Some xs) (Some ys) left part size taken none = λ x rest fits e.
      let same : part ++ ys ≡ F.spell x ++ rest = sym taken ∙ e in
      let long = paced.size x fits in
      let first : take head part ≡ take head (F.spell x) = fronts part ys (F.spell x) rest head same (omega (arith, size)) (omega (arith, long)) in
      let sizes : length part ≡ length (F.spell x) = size ∙ ap (λ bytes. head + more bytes) first ∙ sym long in
      let whole : part ≡ F.spell x = sym (take_all (length part) part (omega arith)) ∙ fronts part ys (F.spell x) rest (length part) same (omega arith) (omega (arith, sizes)) ∙ take_all (length part) (F.spell x) (omega (arith, sizes)) in
      cc (none.only x fits whole)

  -- the same of the front of a room
  pub none_there : (a b left : Option (List ℕ)) (room : List ℕ) (size : ℕ) → length room ≡ PIECE → (size ≡ head + more (take head room)) × (size ≤ PIECE) → Consumes a b (take size room) → IsWhole F (take size room) None
      → IfSome a (λ bytes. TakesOne F.Fits F.spell bytes left (Ok None))
  none_there a b left room size long is taken none =
      let within = length-take-le size room (omega (arith, long, is.1)) in
      let first : take head (take size room) ≡ take head room = take-take head size room (omega (arith, is.0)) in
      none_whole a b left (take size room) (within ∙ is.0 ∙ ap (λ bytes. head + more bytes) (sym first)) taken none

-- ---- bytes that are all there is

-- more than a spelling has
pub too_many : (a b : Option (List ℕ)) (room spelled : List ℕ) (n : ℕ) (P : Type 0) → length spelled ≡ n → length room ≡ n → Consumes a b room → IfSome b (λ ys. 0 < length ys) → IfSome a (λ xs. xs ≡ spelled → P)
too_many None b room spelled n P size long taken more = tt
too_many (Some xs) None room spelled n P size long taken more = absurd taken
too_many (Some xs) (Some ys) room spelled n P size long taken more = λ e. absurd (omega (arith, size, long, more, ap length taken, length-append room ys, ap length e))
