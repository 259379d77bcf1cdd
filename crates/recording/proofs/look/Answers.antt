-- `recording::look` meets its contract: each arm is its kind's row.
-- Assumes nothing.
use Rattle.std.proofs.Common.{◌≡◌, ◌∙◌, sym, ap, ℕ, ◌+◌, ◌-◌, ◌≤◌, ◌<◌, List, length, get_or, take, drop, length-drop, Ok, Err, arith}
use Rattle.std.specs.Prelude.{Result}
use Rattle.std.proofs.lemmas.Result.{err_from_is_err_and}
use mathlib.Core.Logic.{⊎_elim}
use lib.Seq.{take-length}
use borrow.Author.Tests.{le-leb, lt-leb}
use Rattle.wire.proofs.BoolLaws.{cond-true, cond-false, le_or_lt}
use Rattle.recording.specs.Recordings.{serial, sensed, entry, most_flags, serial_kind, safety_kind, tick_kind, song_end_kind, image_kind}
use Rattle.recording.specs.Playback.{looked}
use Rattle.recording.specs.declared.End.{End}
use Rattle.recording.specs.declared.End.TheVariants as end
use Rattle.recording.proofs.FoundLaws.{serial_right, safety_right, tick_right, song_end_right, image_right, past_end, at_cut, at_says, at_unknown}
use Rattle.recording.proofs.look.Goals as goal

-- what came of a body of n bytes in what is left of a slice from a place on: it is cut short, or
-- there
module _ (n : ℕ) (s : List ℕ) (k : ℕ) where
  abbrev lent : List ℕ
  lent = take (length s - k) (drop k s)

  lent_is : lent ≡ drop k s
  lent_is = ap (λ (i : ℕ). take i (drop k s)) (sym (length-drop k s)) ∙ take-length (drop k s)

  is_cut : {e : End} → (length lent < n → ◌≡◌ {A = Result (List ℕ) End} (Err e) (Err end.CutShort))
      → (n ≤ length lent → ◌≡◌ {A = Result (List ℕ) End} (Err e) (Ok (take n lent)))
      → (length (drop k s) < n) × (e ≡ end.CutShort)
  is_cut {e} cut whole =
      ⊎_elim (λ (h : n ≤ length lent). absurd (let q = whole h in cc))
      (λ (h : length lent < n). (omega (arith, ap length lent_is), (let q = cut h in cc))) (le_or_lt n (length lent))

  is_there : {x : List ℕ} → (length lent < n → ◌≡◌ {A = Result (List ℕ) End} (Ok x) (Err end.CutShort))
      → (n ≤ length lent → ◌≡◌ {A = Result (List ℕ) End} (Ok x) (Ok (take n lent)))
      → (n ≤ length (drop k s)) × (x ≡ take n (drop k s))
  is_there {x} cut whole =
      ⊎_elim (λ (h : n ≤ length lent). (omega (arith, ap length lent_is), (let q = whole h in let y : x ≡ take n lent = cc in y ∙ ap (take n) lent_is)))
      (λ (h : length lent < n). absurd (let q = cut h in cc)) (le_or_lt n (length lent))

pub returns-then-s-at : goal.returns-then-s-at
returns-then-s-at c = sym (past_end c.args.s.now c.args.at c.if-s-at.true)

pub returns-in_err-b-in-1 : goal.returns-in_err-b-in-1
returns-in_err-b-in-1 c =
    let p = err_from_is_err_and c.from_residual.result c.from_residual.ensures.1 in
    let x = is_cut 1 c.args.s.now (c.args.at + 1) c.in_err-b-in-1.ensures.cut c.in_err-b-in-1.ensures.whole in
    ap looked (p.1 ∙ ap (λ (e : End). Err e) (p.2 ∙ x.1))
    ∙ sym (at_cut c.args.s.now c.args.at c.if-s-at.false serial_kind serial_right c.in-1.is (omega (arith, x.0, length-drop (c.args.at + 1) c.args.s.now)))

pub returns-in_err-flags-in-2 : goal.returns-in_err-flags-in-2
returns-in_err-flags-in-2 c =
    let p = err_from_is_err_and c.from_residual-in_err-flags-in-2.result c.from_residual-in_err-flags-in-2.ensures.1 in
    let x = is_cut 1 c.args.s.now (c.args.at + 1) c.in_err-flags-in-2.ensures.cut c.in_err-flags-in-2.ensures.whole in
    ap looked (p.1 ∙ ap (λ (e : End). Err e) (p.2 ∙ x.1))
    ∙ sym (at_cut c.args.s.now c.args.at c.if-s-at.false safety_kind safety_right c.in-2.is (omega (arith, x.0, length-drop (c.args.at + 1) c.args.s.now)))

pub returns-in_err-body-in-5 : goal.returns-in_err-body-in-5
returns-in_err-body-in-5 c =
    let p = err_from_is_err_and c.from_residual-in_err-body-in-5.result c.from_residual-in_err-body-in-5.ensures.1 in
    let x = is_cut 40 c.args.s.now (c.args.at + 1) c.in_err-body-in-5.ensures.cut c.in_err-body-in-5.ensures.whole in
    ap looked (p.1 ∙ ap (λ (e : End). Err e) (p.2 ∙ x.1))
    ∙ sym (at_cut c.args.s.now c.args.at c.if-s-at.false image_kind image_right c.in-5.is (omega (arith, x.0, length-drop (c.args.at + 1) c.args.s.now)))

pub returns-in_ok-b-in-1 : goal.returns-in_ok-b-in-1
returns-in_ok-b-in-1 c =
    let x = is_there 1 c.args.s.now (c.args.at + 1) c.in_ok-b-in-1.ensures.cut c.in_ok-b-in-1.ensures.whole in
    ap (λ (l : List ℕ). entry (serial (get_or l 0 0))) x.1
    ∙ sym (at_says c.args.s.now c.args.at c.if-s-at.false serial_kind serial_right c.in-1.is (omega (arith, x.0, length-drop (c.args.at + 1) c.args.s.now)))

pub returns-then-flags-gt-MOST_FLAGS : goal.returns-then-flags-gt-MOST_FLAGS
returns-then-flags-gt-MOST_FLAGS c =
    let x = is_there 1 c.args.s.now (c.args.at + 1) c.in_ok-flags-in-2.ensures.cut c.in_ok-flags-in-2.ensures.whole in
    sym (at_says c.args.s.now c.args.at c.if-s-at.false safety_kind safety_right c.in-2.is (omega (arith, x.0, length-drop (c.args.at + 1) c.args.s.now))
    ∙ ap (λ (l : List ℕ). safety_kind.says l) (sym x.1)
    ∙ cond-false _ _ _ (lt-leb _ most_flags c.if-flags-gt-MOST_FLAGS.true))

pub returns-else-flags-gt-MOST_FLAGS : goal.returns-else-flags-gt-MOST_FLAGS
returns-else-flags-gt-MOST_FLAGS c =
    let x = is_there 1 c.args.s.now (c.args.at + 1) c.in_ok-flags-in-2.ensures.cut c.in_ok-flags-in-2.ensures.whole in
    sym (at_says c.args.s.now c.args.at c.if-s-at.false safety_kind safety_right c.in-2.is (omega (arith, x.0, length-drop (c.args.at + 1) c.args.s.now))
    ∙ ap (λ (l : List ℕ). safety_kind.says l) (sym x.1)
    ∙ cond-true _ _ _ (le-leb _ most_flags c.if-flags-gt-MOST_FLAGS.false))

pub returns-in-3 : goal.returns-in-3
returns-in-3 c = sym (at_says c.args.s.now c.args.at c.if-s-at.false tick_kind tick_right c.in-3.is (omega arith))

pub returns-in-4 : goal.returns-in-4
returns-in-4 c = sym (at_says c.args.s.now c.args.at c.if-s-at.false song_end_kind song_end_right c.in-4.is (omega arith))

pub returns-in_ok-body-in-5 : goal.returns-in_ok-body-in-5
returns-in_ok-body-in-5 c =
    let x = is_there 40 c.args.s.now (c.args.at + 1) c.in_ok-body-in-5.ensures.cut c.in_ok-body-in-5.ensures.whole in
    ap (λ (l : List ℕ). entry (sensed l)) x.1
    ∙ sym (at_says c.args.s.now c.args.at c.if-s-at.false image_kind image_right c.in-5.is (omega (arith, x.0, length-drop (c.args.at + 1) c.args.s.now)))

pub returns-in_default : goal.returns-in_default
returns-in_default c =
    let s = c.args.s.now in
    let at = c.args.at in
    sym (at_unknown s at c.if-s-at.false (λ (e : get_or s at 0 ≡ 1). omega arith) (λ (e : get_or s at 0 ≡ 2). omega arith)
    (λ (e : get_or s at 0 ≡ 3). omega arith) (λ (e : get_or s at 0 ≡ 4). omega arith) (λ (e : get_or s at 0 ≡ 5). omega arith))
