-- What one more line does to what a text says.
use Rattle.std.proofs.Common.{◌≡◌, ℕ, ◌+◌, true, false, cond, List, [], ◌++◌, Option, None, Some, Result, Ok, Err, IfSome, refl, sym, ap, ◌∙◌}
use Rattle.std.specs.Prelude.{IsSomeAnd}
use Rattle.rep_types.specs.declared.refusal.Refusal.{Refusal}
use Rattle.rep_types.specs.declared.refusal.Refusal.TheVariants.{Malformed, StreamFault}
use Rattle.rep_types.specs.Settings.{Setting}
use Rattle.rep_record.specs.Words.{is_blank}
use Rattle.rep_record.specs.Lines.{Unread, ahead, without_feed, line_fault, HandedOut, IsRefused, NextLine}
use Rattle.rep_record.specs.Reading.{order_line, params_line}
use Rattle.rep_script.specs.Judging.{text_of, said_by, text_ahead, said_ahead, content, with_line, with_params, read_line, refused, ReadsParams}
use Rattle.rep_script.specs.ScriptLines.{script_line}

-- what a line without fault says
line_content : {A : Type 0} (read : ℕ → List ℕ → Result A Refusal) (number before : ℕ) (raw : List ℕ) → line_fault number before raw ≡ None →
    read_line read number before raw ≡ cond (is_blank (without_feed raw)) None (Some (read number (without_feed raw)))
line_content read number before raw allowed = rw allowed refl

-- a line with a fault
line_refused : {A : Type 0} (read : ℕ → List ℕ → Result A Refusal) (number before : ℕ) (raw : List ℕ) (refusal : Refusal) → line_fault number before raw ≡ Some refusal →
    read_line read number before raw ≡ Some (Err refusal)
line_refused read number before raw refusal fault = rw fault refl

-- a text that has ended says nothing
pub said_end : {A : Type 0} (read : ℕ → List ℕ → Result A Refusal) (u : Unread) → said_ahead read u [] ≡ ([], None)
unfolding said_by
said_end read u = refl

-- a text that has ended lacks its params line
pub text_end : {A : Type 0} (read : ℕ → List ℕ → Result A Refusal) (u : Unread) → text_ahead read u [] ≡ refused (Malformed (u.number + 1))
unfolding text_of
text_end read u = refl

-- what is said ends at a line that is refused
pub said_refused : {A : Type 0} (read : ℕ → List ℕ → Result A Refusal) (text : List ℕ) (u : Unread) (refusal : Refusal) → IsRefused text u refusal → said_ahead read u text ≡ ([], Some refusal)
unfolding said_by
said_refused read text u refusal r = rw (r.lines, line_refused read (u.number + 1) u.taken r.raw refusal r.fault) refl

-- a line that is refused before the params line
pub text_refused : {A : Type 0} (read : ℕ → List ℕ → Result A Refusal) (text : List ℕ) (u : Unread) (refusal : Refusal) → IsRefused text u refusal → text_ahead read u text ≡ refused refusal
unfolding text_of
text_refused read text u refusal r = rw (r.lines, line_refused params_line (u.number + 1) u.taken r.raw refusal r.fault) refl

-- the first line says what it says, and the rest what it said before
pub said_step : {A : Type 0} (read : ℕ → List ℕ → Result A Refusal) (text : List ℕ) (old new : Unread) (left : Option (List ℕ)) (line : List ℕ) (h : HandedOut text old new left line) → new.number ≡ old.number + 1 →
    said_ahead read old text ≡ with_line (content read new.number line) (said_ahead read new h.rest)
unfolding said_by
said_step read text old new left line h numbered =
    rw (h.lines, line_content read (old.number + 1) old.taken h.raw h.allowed, h.line_is, h.taken, numbered) refl

-- the first line before the params line
pub text_step : {A : Type 0} (read : ℕ → List ℕ → Result A Refusal) (text : List ℕ) (old new : Unread) (left : Option (List ℕ)) (line : List ℕ) (h : HandedOut text old new left line) → new.number ≡ old.number + 1 →
    text_ahead read old text ≡ with_params (cond (is_blank line) None (Some (params_line new.number line))) (said_ahead read new h.rest) (text_ahead read new h.rest)
unfolding text_of
text_step read text old new left line h numbered =
    rw (h.lines, line_content params_line (old.number + 1) old.taken h.raw h.allowed, h.line_is, h.taken, numbered) refl

-- the lines before said nothing
abbrev pub SaidNothing : {A : Type 0} → (ℕ → List ℕ → Result A Refusal) → Option (List ℕ) → Unread → Unread → Option (List ℕ) → Type 0
SaidNothing read start first u left = IfSome start (λ text. IsSomeAnd left (λ rest. text_ahead read first text ≡ text_ahead read u rest))

-- a line that is refused before the params line
pub params_refused : {A : Type 0} (read : ℕ → List ℕ → Result A Refusal) (start left left' : Option (List ℕ)) (first old new : Unread) (refusal : Refusal) (line : List ℕ) → SaidNothing read start first old (ahead old left) →
    IfSome left (λ known. NextLine (old.pending ++ known) old (Err refusal) new left' line) → IfSome start (λ text. ReadsParams read text first (Err refusal) new left')
params_refused read None left left' first old new refusal line said next = tt
params_refused read (Some text) None left' first old new refusal line said next = absurd said
params_refused read (Some text) (Some known) left' first old new refusal line said next =
    elim refusal as (λ e. NextLine (old.pending ++ known) old (Err e) new left' line → ReadsParams read text first (Err e) new left') [
      | StreamFault ↦ λ _. tt
      | Malformed at ↦ λ r. said ∙ text_refused read (old.pending ++ known) old (Malformed at) r
      | _ ↦ λ never. absurd never
    ] next

-- a text that ends before its params line
pub params_missing : {A : Type 0} (read : ℕ → List ℕ → Result A Refusal) (start left left' : Option (List ℕ)) (first old new : Unread) (line : List ℕ) (number : ℕ) → SaidNothing read start first old (ahead old left) →
    IfSome left (λ known. NextLine (old.pending ++ known) old (Ok false) new left' line) → new.number ≡ old.number → number ≡ new.number →
    IfSome start (λ text. ReadsParams read text first (Err (Malformed (number + 1))) new left')
params_missing read None left left' first old new line number said next same is = tt
params_missing read (Some text) None left' first old new line number said next same is = absurd said
params_missing read (Some text) (Some known) left' first old new line number said next same is =
    said ∙ (ap (text_ahead read old) next.none ∙ (text_end read old ∙ ap (λ n. refused (Malformed (n + 1))) (sym same ∙ sym is)))

-- a line without words before the params line
pub params_blank : {A : Type 0} (read : ℕ → List ℕ → Result A Refusal) (start left left' : Option (List ℕ)) (first old new : Unread) (line : List ℕ) → SaidNothing read start first old (ahead old left) →
    IfSome left (λ known. NextLine (old.pending ++ known) old (Ok true) new left' line) → new.number ≡ old.number + 1 → is_blank line ≡ true →
    SaidNothing read start first new (ahead new left')
params_blank read None left left' first old new line said next numbered blank = tt
params_blank read (Some text) None left' first old new line said next numbered blank = absurd said
params_blank read (Some text) (Some known) left' first old new line said next numbered blank =
    rw next.ahead_is (said ∙ (text_step read (old.pending ++ known) old new left' line next numbered ∙ rw blank refl))

-- the params line
params_reading : {A : Type 0} (read : ℕ → List ℕ → Result A Refusal) (text : List ℕ) (first new : Unread) (left' : Option (List ℕ)) (rest : List ℕ) (r : Result Setting Refusal) → ahead new left' ≡ Some rest →
    text_ahead read first text ≡ with_params (Some r) (said_ahead read new rest) (text_ahead read new rest) → ReadsParams read text first r new left'
params_reading read text first new left' rest (Ok p) ahead_is said = rw ahead_is said
params_reading read text first new left' rest (Err refusal) ahead_is said =
    elim refusal as (λ e. text_ahead read first text ≡ refused e → ReadsParams read text first (Err e) new left') [ StreamFault ↦ λ _. tt | _ ↦ λ e. e ] said

pub params_found : {A : Type 0} (read : ℕ → List ℕ → Result A Refusal) (start left left' : Option (List ℕ)) (first old new : Unread) (line : List ℕ) (r : Result Setting Refusal) → SaidNothing read start first old (ahead old left) →
    IfSome left (λ known. NextLine (old.pending ++ known) old (Ok true) new left' line) → new.number ≡ old.number + 1 → is_blank line ≡ false →
    r ≡ params_line new.number line → IfSome start (λ text. ReadsParams read text first r new left')
params_found read None left left' first old new line r said next numbered filled is = tt
params_found read (Some text) None left' first old new line r said next numbered filled is = absurd said
params_found read (Some text) (Some known) left' first old new line r said next numbered filled is =
    params_reading read text first new left' next.rest r next.ahead_is (said ∙ (text_step read (old.pending ++ known) old new left' line next numbered ∙ rw (filled, is) refl))

-- ---- the same of items and of commands

abbrev pub NeitherSaid : Option (List ℕ) → Unread → Unread → Option (List ℕ) → Type 0
NeitherSaid start first u left = SaidNothing order_line start first u left × SaidNothing script_line start first u left

abbrev pub BothRead : Option (List ℕ) → Unread → Result Setting Refusal → Unread → Option (List ℕ) → Type 0
BothRead start first r new left = IfSome start (λ text. ReadsParams order_line text first r new left × ReadsParams script_line text first r new left)

both_read : (start : Option (List ℕ)) (first new : Unread) (left' : Option (List ℕ)) (r : Result Setting Refusal) → IfSome start (λ text. ReadsParams order_line text first r new left') →
    IfSome start (λ text. ReadsParams script_line text first r new left') → BothRead start first r new left'
both_read None first new left' r items commands = tt
both_read (Some text) first new left' r items commands = (items, commands)

pub both_refused : (start left left' : Option (List ℕ)) (first old new : Unread) (refusal : Refusal) (line : List ℕ) → NeitherSaid start first old (ahead old left) →
    IfSome left (λ known. NextLine (old.pending ++ known) old (Err refusal) new left' line) → BothRead start first (Err refusal) new left'
both_refused start left left' first old new refusal line said next =
    both_read start first new left' (Err refusal) (params_refused order_line start left left' first old new refusal line said.0 next)
    (params_refused script_line start left left' first old new refusal line said.1 next)

pub both_missing : (start left left' : Option (List ℕ)) (first old new : Unread) (line : List ℕ) (number : ℕ) → NeitherSaid start first old (ahead old left) →
    IfSome left (λ known. NextLine (old.pending ++ known) old (Ok false) new left' line) → new.number ≡ old.number → number ≡ new.number →
    BothRead start first (Err (Malformed (number + 1))) new left'
both_missing start left left' first old new line number said next same is =
    both_read start first new left' (Err (Malformed (number + 1))) (params_missing order_line start left left' first old new line number said.0 next same is)
    (params_missing script_line start left left' first old new line number said.1 next same is)

pub both_found : (start left left' : Option (List ℕ)) (first old new : Unread) (line : List ℕ) (r : Result Setting Refusal) → NeitherSaid start first old (ahead old left) →
    IfSome left (λ known. NextLine (old.pending ++ known) old (Ok true) new left' line) → new.number ≡ old.number + 1 → is_blank line ≡ false →
    r ≡ params_line new.number line → BothRead start first r new left'
both_found start left left' first old new line r said next numbered filled is =
    both_read start first new left' r (params_found order_line start left left' first old new line r said.0 next numbered filled is)
    (params_found script_line start left left' first old new line r said.1 next numbered filled is)
