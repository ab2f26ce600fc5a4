use Rattle.std.proofs.Common.{◌≡◌, ◌∙◌, sym, ap, ℕ, ◌+◌, List, [], ◌∷◌, ◌++◌, take, append-nil, append_assoc, codes}
use Rattle.std.specs.Fmt.{decimal}
use Rattle.std.specs.List.{flat_map}
use Rattle.std.proofs.lemmas.List.{flat_map_more, take_all, take_more}
use Rattle.rep_types.specs.Entries.{Entry}
use Rattle.rep_types.specs.Gtids.{Gtid, gtid_text}
use Rattle.rep_types.proofs.Choices.{success_weaker}
use Rattle.rep_script.proofs.answers.put_state.Goals as goal

-- what stands before the window
abbrev front : Gtid → ℕ → List ℕ
front gtid base = codes "state " ++ (gtid_text gtid ++ (codes " base " ++ (decimal base ++ codes " window")))

abbrev seqno_of : Entry → List ℕ
seqno_of e = codes " " ++ decimal e.seqno

pub loop-entry-init : goal.loop-entry-init
loop-entry-init c = c.in_ok-put.ensures ∙ ap (λ l. l ++ front c.args.gtid c.args.base) c.requires.empty ∙ sym (append-nil (front c.args.gtid c.args.base))

pub loop-entry-preserved : goal.loop-entry-preserved
loop-entry-preserved c = let window = c.args.window.now in let i = c.loop-entry.entry-index in let e = c.entry-item.result in
    let more : take (i + 1) window ≡ take i window ++ e ∷ [] = take_more window i e c.loop-entry-test.true ∙ ap (λ x. take i window ++ x ∷ []) (sym c.entry-item.is) in
    c.in_ok-put-2.ensures ∙ ap (λ l. l ++ 32 ∷ decimal c.seqno-seqno.result) c.loop-entry.invariant ∙ ap (λ n. (front c.args.gtid c.args.base ++ flat_map seqno_of (take i window)) ++ 32 ∷ decimal n) c.seqno-seqno.ensures
    ∙ flat_map_more seqno_of (front c.args.gtid c.args.base) (take i window) e ∙ ap (λ l. front c.args.gtid c.args.base ++ flat_map seqno_of l) (sym more)

pub returns : goal.returns
returns c = let window = c.args.window.now in let i = c.loop-entry.entry-index in let before = front c.args.gtid c.args.base in
    success_weaker c.put-2.result c.put-2.ensures (λ is. is ∙ ap (λ l. l ++ 10 ∷ []) c.loop-entry.invariant ∙ append_assoc before (flat_map seqno_of (take i window)) (10 ∷ []) ∙ ap (λ l. before ++ (flat_map seqno_of l ++ 10 ∷ [])) (take_all i window c.loop-entry-test.false))
