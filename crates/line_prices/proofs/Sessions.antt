-- The calls answer every line of the input, wherever it is cut into blocks: each block tells of its own bytes, and cuts join. Assumes nothing.
use Prim.Native.Nat.{ℕ, ◌*◌, ◌≤◌}
use native.Mathlib.Omega.{arith}
use mathlib.Core.Path.{◌≡◌, refl, ap, subst, sym, ◌∙◌}
use mathlib.Core.List.{List, [], ◌∷◌, ◌++◌, append_assoc, append-nil}
use mathlib.Core.Option.{Option, none}
use lib.ListN.{drop, get_or, length, length-append, length-drop, length-replicate, length-take, replicate, take}
use lib.Seq.{drop_at, take_at}
use Rattle.game.specs.Lists.{Each, concat_map}
use Rattle.game.specs.Calls.{Answer, Refusal, gives, refuses}
use Rattle.game.proofs.Members.{concat_map_append}
use Rattle.lines.proofs.LineRead.{no_refusal}
use Rattle.line_price.specs.Prices.{answer_line}
use Rattle.line_prices.specs.Blocks.{Cut, Desk, DeskOutcome, block_call, cut_from, desk_after, end_call, held_after, kept_over, last_line, printed, unless_desk}
use Rattle.line_prices.specs.Bytes.{desk_of}
use Rattle.line_prices.specs.Sessions.{AllAnswered, Fits, KeptOf, calls, joined, to_print}
use Rattle.line_prices.specs.Answers.{KeepsDesk}
use Rattle.line_prices.proofs.After.{block-desk, held_reads, held_by}
use Rattle.line_prices.proofs.Cuts.{cut_joins}
use Rattle.line_prices.proofs.Desks.{Keeps, Told, block_answers}
use Rattle.line_price.proofs.Kept.{answer_kept}
use Rattle.line_prices.proofs.Verdict.{fine}

-- ---- one call

module _ (begun held : List ℕ) (count : ℕ) (keeps : Keeps begun held count) (held_room : 517 ≤ length held) where
  -- a call with room is not refused
  pub few : count ≤ 517
  few = omega (arith, keeps.counted, length-take 517 begun)

  -- what a block of bytes comes to
  abbrev pub block_desk : List ℕ → List ℕ → Desk
  block_desk block out = desk_after (cut_from (take count held) block) held out

  pub block_comes : (block out : List ℕ) → Fits out block → unless_desk none held out (block_desk block out) ≡ block_call block held count out
  unfolding block_call
  block_comes block out f = ap (λ (o : Option Refusal). unless_desk o held out (block_desk block out)) (fine held count out (length block) held_room few f)

  -- the lines that ended in the block are to be printed, and the line that goes on is kept
  pub block_tells : (block out : List ℕ) → Fits out block → Told (cut_from begun block) (desk_of held count out) (block_desk block out)
  block_tells block out f =
      subst (λ (d : Desk). Told (cut_from begun block) (desk_of held count out) d) (block-desk block held count out (record { held_room = held_room; few = few; out_room = omega arith }))
      (block_answers block begun (desk_of held count out) keeps held_room (omega arith))

  -- what the end of input comes to
  abbrev pub end_desk : List ℕ → Desk
  end_desk out = desk_after (record { ended = last_line (take count held); goes-on = [] }) held out

  pub end_comes : (out : List ℕ) → 15 ≤ length out → unless_desk none held out (end_desk out) ≡ end_call held count out
  unfolding end_call
  end_comes out r = ap (λ (o : Option Refusal). unless_desk o held out (end_desk out)) (fine held count out 1 held_room few r)

  -- what is kept of the last line has its answer
  pub last_answer : concat_map answer_line (last_line (take count held)) ≡ concat_map answer_line (last_line begun)
  last_answer = go begun (take count held) keeps.kept
    where
      go : (line kept : List ℕ) → kept ≡ take 517 line → concat_map answer_line (last_line kept) ≡ concat_map answer_line (last_line line)
      go [] kept e = ap (λ (l : List ℕ). concat_map answer_line (last_line l)) e
      go (b ∷ bs) kept e = ap (λ (l : List ℕ). concat_map answer_line (last_line l)) e ∙ ap (λ (l : List ℕ). l ++ []) (answer_kept (b ∷ bs))

-- answers with what stood past them: the answers are to be printed
pub said_first : (lines : List (List ℕ)) (out : List ℕ) → let said = concat_map answer_line lines in take (length said) (said ++ drop (length said) out) ≡ said
said_first lines out = let said = concat_map answer_line lines in take_at said (drop (length said) out) (length said) refl

-- ---- all the calls

-- the lines of a cut that nothing follows
abbrev all_lines : Cut → List (List ℕ)
all_lines c = c.ended ++ last_line c.goes-on

-- a block's answers, and those of the blocks after it
blocks_join : (b : List ℕ) (bs : List (List ℕ)) (begun later : List ℕ) → later ≡ concat_map answer_line (all_lines (cut_from (cut_from begun b).goes-on (joined bs)))
    → concat_map answer_line (cut_from begun b).ended ++ later ≡ concat_map answer_line (all_lines (cut_from begun (joined (b ∷ bs))))
blocks_join b bs begun later e =
    let c = cut_from begun b in
    let c' = cut_from c.goes-on (joined bs) in
    ap (λ (l : List ℕ). concat_map answer_line c.ended ++ l) e
    ∙ sym (concat_map_append answer_line c.ended (all_lines c'))
    ∙ ap (concat_map answer_line) (sym (append_assoc c.ended c'.ended (last_line c'.goes-on)))
    ∙ ap (λ (x : Cut). concat_map answer_line (all_lines x)) (sym (cut_joins begun b (joined bs)))

-- none of the calls is refused, and they print the answers to these lines
pub record AnswersLines (lines : List (List ℕ)) (outcomes : List DeskOutcome) : Type 0 where
  pub passed : Each (λ (o : DeskOutcome). o.answer.number ≡ 0) outcomes
  pub said : concat_map to_print outcomes ≡ concat_map answer_line lines

answers_from : (blocks : List (List ℕ)) (begun held out : List ℕ) (count : ℕ) → Keeps begun held count → 517 ≤ length held → 15 ≤ length out → Each (Fits out) blocks
    → AnswersLines (all_lines (cut_from begun (joined blocks))) (calls blocks held count out)
answers_from [] begun held out count k h r fits =
    subst (λ (o : DeskOutcome). AnswersLines (last_line begun) (o ∷ [])) (end_comes begun held count k h out r)
    (record {
      passed = (refl, tt);
      said = append-nil _ ∙ said_first (last_line (take count held)) out ∙ last_answer begun held count k h;
    })
answers_from (b ∷ bs) begun held out count k h r (f, fits) =
    let d = block_desk begun held count k h b out in
    let t = block_tells begun held count k h b out f in
    let room : length d.out ≡ length out = t.out_whole in
    let rest =
    answers_from bs (cut_from begun b).goes-on d.held d.out d.count t.keeps (omega (arith, t.held_whole)) (omega (arith, room))
    (subst (λ (n : ℕ). Each (λ (b : List ℕ). 15 * length b ≤ n) bs) (sym room) fits) in
    subst (λ (o : DeskOutcome). AnswersLines (all_lines (cut_from begun (joined (b ∷ bs)))) (o ∷ calls bs o.held (get_or o.answer.values 0 0) o.out))
    (block_comes begun held count k h b out f)
    (record {
      passed = (refl, rest.passed);
      said = ap (λ (l : List ℕ). l ++ concat_map to_print (calls bs d.held d.count d.out)) t.says ∙ blocks_join b bs begun (concat_map to_print (calls bs d.held d.count d.out)) rest.said;
    })

-- for every input, wherever it is cut into blocks, with room for 517 bytes of a line and for the answers
pub reader_answers : (blocks : List (List ℕ)) (held out : List ℕ) → 517 ≤ length held → 15 ≤ length out → Each (Fits out) blocks → AllAnswered (joined blocks) (calls blocks held 0 out)
unfolding printed
reader_answers blocks held out h r fits =
    let a = answers_from blocks [] held out 0 (record { kept = refl; counted = refl }) h r fits in
    record { none_refused = a.passed; prints = a.said }

-- ---- what a call left, by its promise

-- the desk that a call left
abbrev pub left : List ℕ → ℕ → List ℕ → ℕ → Desk
left held kept out written = record { held = held; count = kept; out = out; written = written }

-- a call whose checks passed left the desk that it is promised
pub left_passed : (held out : List ℕ) (d : Desk) (o : DeskOutcome) → unless_desk none held out d ≡ o → (held' out' : List ℕ) (kept written : ℕ) → KeepsDesk o (gives (kept ∷ written ∷ [])) held' out' → left held' kept out' written ≡ d
left_passed held out d o e held' out' kept written k =
    let q = subst (λ (p : DeskOutcome). KeepsDesk p (gives (kept ∷ written ∷ [])) held' out') (sym e) k in
    let same_kept : kept ≡ d.count = ap (λ (a : Answer). get_or a.values 0 0) q.answers in
    let same-written : written ≡ d.written = ap (λ (a : Answer). get_or a.values 1 0) q.answers in
    λ i. left (q.keeps i) (same_kept i) (q.prints i) (same-written i)

-- and was not refused
pub passed_not_refused : (held out : List ℕ) (d : Desk) (o : DeskOutcome) → unless_desk none held out d ≡ o → (held' out' : List ℕ) (f : Refusal) → KeepsDesk o (refuses f) held' out' → ⊥
passed_not_refused held out d o e held' out' f k = no_refusal f _ _ (k.answers ∙ ap (λ (p : DeskOutcome). p.answer) (sym e))

-- ---- what is kept from block to block

-- what lines that ended leave, and then the line that goes on
held_then : (held : List ℕ) (ended : List (List ℕ)) (line : List ℕ) → held_after held ended line ≡ kept_over (held_after held ended []) line
held_then held [] line = refl
held_then held (e ∷ es) line = held_then (kept_over held e) es line

-- lines that ended, and then more
held_joins : (held : List ℕ) (ended more : List (List ℕ)) (line : List ℕ) → held_after held (ended ++ more) line ≡ held_after (held_after held ended []) more line
held_joins held [] more line = refl
held_joins held (e ∷ es) more line = held_joins (kept_over held e) es more line

-- a run with room stays as long
kept_long : (held line : List ℕ) → 517 ≤ length held → length (kept_over held line) ≡ length held
kept_long held line h =
    omega (
      arith,
      length-append (take 517 line) (drop (length (take 517 line)) held),
      length-drop (length (take 517 line)) held,
      length-take 517 line,
    )

held_long : (held : List ℕ) (ended : List (List ℕ)) (line : List ℕ) → 517 ≤ length held → length (held_after held ended line) ≡ length held
held_long held [] line h = kept_long held line h
held_long held (e ∷ es) line h = held_long (kept_over held e) es line (omega (arith, kept_long held e h)) ∙ kept_long held e h

module _ (input before held : List ℕ) (count : ℕ) (k : KeptOf input before held count) (room : 517 ≤ length before) where
  -- the lines of the input so far
  abbrev sofar : Cut
  sofar = cut_from [] input

  -- the run as the lines that ended left it
  abbrev under : List ℕ
  under = held_after before sofar.ended []

  over : held ≡ take 517 sofar.goes-on ++ drop count under
  over = k.held_is ∙ held_then before sofar.ended sofar.goes-on ∙ ap (λ (n : ℕ). take 517 sofar.goes-on ++ drop n under) (sym k.count_is)

  pub kept_room : length held ≡ length before
  kept_room = ap length k.held_is ∙ held_long before sofar.ended sofar.goes-on room

  pub kept_keeps : Keeps sofar.goes-on held count
  kept_keeps = record { kept = ap (take count) over ∙ take_at (take 517 sofar.goes-on) (drop count under) count (sym k.count_is); counted = k.count_is }

  past : drop count under ≡ drop count held
  past = sym (ap (drop count) over ∙ drop_at (take 517 sofar.goes-on) (drop count under) count (sym k.count_is))

  -- another block read: what is kept is what the longer input comes to
  pub kept_on : (block : List ℕ) → KeptOf (input ++ block) before (held_by held (cut_from (take count held) block)) (length (take 517 (cut_from (take count held) block).goes-on))
  kept_on block =
      let longer : 517 ≤ length held = omega (arith, kept_room) in
      let cut = cut_from sofar.goes-on block in
      let joins = sym (cut_joins [] input block) in
      record {
        held_is = held_reads block sofar.goes-on under held count kept_keeps longer past ∙ sym (held_joins before sofar.ended cut.ended cut.goes-on) ∙ ap (held_by before) joins;
        count_is = (block_tells sofar.goes-on held count kept_keeps longer block (replicate (15 * length block) 0) (omega (arith, length-replicate {A = ℕ} (15 * length block) 0))).keeps.counted ∙ ap (λ (c : Cut). length (take 517 c.goes-on)) joins;
      }
