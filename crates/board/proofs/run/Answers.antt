-- `board::run` meets its contract: the loop carries the partial frame, and the rest of the
-- record stays.
-- Assumes nothing.
use Rattle.std.proofs.Common.{◌≡◌, ◌∙◌, refl, sym, ap, ap₂, ℕ, ◌+◌, ◌≤◌, ◌<◌, length, w64, Fits, arith}
use mathlib.Core.Path.{subst}
use mathlib.Core.Bool.{not}
use mathlib.Core.Logic.{⊎_elim}
use native.Mathlib.Nat.{eq-or-lt_of_le}
use borrow.Author.Rules.{rules}
use Rattle.wire.proofs.BoolLaws.{to_T, cond-false}
use Rattle.wire.specs.Replies.{told}
use Rattle.frame.specs.Push.{empty_partial}
use Rattle.frame.specs.Absorb.{Absorbed}
use Rattle.frame.specs.declared.Partial.{Partial}
use Rattle.command.specs.Layout.{decode_of}
use Rattle.command.specs.declared.Message.{Message}
use Rattle.state.specs.State.{with_partial}
use Rattle.state.specs.Accepted.{accepted_of}
use Rattle.state.specs.declared.State.{State}
use Rattle.board.specs.Outcome.{gives}
use Rattle.board.specs.Judge.{effect_in, judge_of}
use Rattle.board.specs.Calls.{performed, run_of, ran_as}
use Rattle.board.proofs.OutcomeLaws.{MetSent, told_as}
use Rattle.board.proofs.RunLaws.{ran_met, ran_gives, ran_told, sent_of, ran_refused, ran_done, rest_taken, waits_as, whole_as, Going, going_start, going_end, absorbed_inside, absorbed_on, absorbed_done}
use Rattle.board.proofs.run.Goals as goal

-- a place in the slice that is not its end
more : {n l : ℕ} → n ≤ l → (n ≡ l → ⊥) → n < l
more h k = ⊎_elim (λ e. absurd (k e)) (λ m. m) (eq-or-lt_of_le h)

pub returns-then-not-accepts : goal.returns-then-not-accepts
unfolding run_of
returns-then-not-accepts c =
    ran_gives c.args.buffer.now (cond-false (accepted_of c.args.state) _ (performed (gives 8 c.args.state) 0) (sym c.accepts.ensures ∙ c.if-not-accepts.true))
    (ran_told _ 8 c.args.state 0 (told_as 8 refl c.new.ensures))

pub loop-read-init : goal.loop-read-init
loop-read-init c =
    (refl, going_start c.args.state c.args.bytes.now c.args.image.now (length c.args.buffer.now) (to_T (accepted_of c.args.state) (sym c.accepts.ensures ∙ c.if-not-accepts.false)))

pub overflow_add-read : goal.overflow_add-read
overflow_add-read c =
    let l : Fits w64 (length c.args.bytes.now) = search rules in
    let e = ap (λ (x : Absorbed). x.count) (rest_taken c.loop-read.partial c.args.bytes.now c.loop-read.read c.absorb-taken.ensures) in
    let i = absorbed_inside c.args.state c.args.bytes.now c.args.image.now (length c.args.buffer.now) (λ i. omega (arith, c.type_inv.bytes i)) c.loop-read.invariant.1 (more c.loop-read.invariant.1.inside c.if-read-bytes.false) in
    omega (arith, i.1, e, l)

pub slice_bounds-absorb-count : goal.slice_bounds-absorb-count
slice_bounds-absorb-count c = omega (arith, c.loop-read.invariant.1.inside)

pub slice_bounds-absorb-start : goal.slice_bounds-absorb-start
slice_bounds-absorb-start c = omega (arith, c.loop-read.invariant.1.inside)

pub loop-read-smaller : goal.loop-read-smaller
loop-read-smaller c =
    let e = ap (λ (x : Absorbed). x.count) (rest_taken c.loop-read.partial c.args.bytes.now c.loop-read.read c.absorb-taken.ensures) in
    let i = absorbed_inside c.args.state c.args.bytes.now c.args.image.now (length c.args.buffer.now) (λ i. omega (arith, c.type_inv.bytes i)) c.loop-read.invariant.1 (more c.loop-read.invariant.1.inside c.if-read-bytes.false) in
    omega (arith, i, e)

pub loop-read-preserved : goal.loop-read-preserved
loop-read-preserved c =
    let a = c.args in
    let n = c.loop-read.read in
    let w = waits_as (rest_taken c.loop-read.partial a.bytes.now n c.absorb-taken.ensures) c.in-Waits.is in
    let g = absorbed_on a.state a.bytes.now a.image.now (length a.buffer.now) (λ i. omega (arith, c.type_inv.bytes i)) c.loop-read.invariant.1 (more c.loop-read.invariant.1.inside c.if-read-bytes.false)
    (ap (λ (x : Absorbed). x.complete) (sym w)) in
    (c.loop-read.invariant.0, subst (λ (x : Absorbed). Going a.state a.bytes.now a.image.now (length a.buffer.now) x.partial (n + x.count)) (sym w) g)

pub returns-else-is_err : goal.returns-else-is_err
returns-else-is_err c =
    let a = c.args in
    let n = c.loop-read.read in
    let w = whole_as (rest_taken c.loop-read.partial a.bytes.now n c.absorb-taken.ensures) c.in-Whole.is in
    let m = decode_of c.in-Whole.whole.bytes in
    let met : MetSent (judge_of a.state m a.image.now (length a.buffer.now)) (told c.judge-sent.result) a.buffer.now c.judge-sent.new.buffer =
    sent_of a.state a.image.now c.decode-message.ensures c.loop-read.invariant.0 c.judge-sent.ensures in
    let cleared : c.with_partial-cleared.result ≡ with_partial empty_partial a.state = c.with_partial-cleared.ensures ∙ ap (λ (p : Partial). with_partial p a.state) c.empty.ensures in
    ran_met a.buffer.now (absorbed_done a.state a.bytes.now a.image.now (length a.buffer.now) (λ i. omega (arith, c.type_inv.bytes i)) c.loop-read.invariant.1 (more c.loop-read.invariant.1.inside c.if-read-bytes.false)
    (ap (λ (x : Absorbed). x.complete) (sym w))
    ∙ ap (λ (x : Absorbed). performed (judge_of (with_partial empty_partial a.state) (decode_of x.partial.bytes) a.image.now (length a.buffer.now)) (n + x.count)) (sym w))
    (ran_done a.state m a.image.now a.buffer.now c.judge-sent.result (n + c.absorb-taken.result.count) met (c.is_err.ensures.negation ∙ ap not c.if-is_err.false)
    (c.effect-state.ensures ∙ ap₂ (λ (x : Message) (s : State). (effect_in x).sets s) c.decode-message.ensures cleared))

pub returns-then-is_err : goal.returns-then-is_err
returns-then-is_err c =
    let a = c.args in
    let n = c.loop-read.read in
    let w = whole_as (rest_taken c.loop-read.partial a.bytes.now n c.absorb-taken.ensures) c.in-Whole.is in
    let m = decode_of c.in-Whole.whole.bytes in
    let met : MetSent (judge_of a.state m a.image.now (length a.buffer.now)) (told c.judge-sent.result) a.buffer.now c.judge-sent.new.buffer =
    sent_of a.state a.image.now c.decode-message.ensures c.loop-read.invariant.0 c.judge-sent.ensures in
    let cleared : c.with_partial-cleared.result ≡ with_partial empty_partial a.state = c.with_partial-cleared.ensures ∙ ap (λ (p : Partial). with_partial p a.state) c.empty.ensures in
    ran_met a.buffer.now (absorbed_done a.state a.bytes.now a.image.now (length a.buffer.now) (λ i. omega (arith, c.type_inv.bytes i)) c.loop-read.invariant.1 (more c.loop-read.invariant.1.inside c.if-read-bytes.false)
    (ap (λ (x : Absorbed). x.complete) (sym w))
    ∙ ap (λ (x : Absorbed). performed (judge_of (with_partial empty_partial a.state) (decode_of x.partial.bytes) a.image.now (length a.buffer.now)) (n + x.count)) (sym w))
    (ran_refused a.state m a.image.now a.buffer.now c.judge-sent.result (n + c.absorb-taken.result.count) met (c.is_err.ensures.negation ∙ ap not c.if-is_err.true) cleared)

pub returns-then-read-bytes : goal.returns-then-read-bytes
returns-then-read-bytes c =
    let a = c.args in
    rw c.loop-read.invariant.0
    (ran_gives a.buffer.now (going_end a.state a.bytes.now a.image.now (length a.buffer.now) c.loop-read.invariant.1 (omega (arith, c.if-read-bytes.true)))
    (ran_told _ 9 _ c.loop-read.read (told_as 9 refl c.new-answer.ensures) ∙ ap (λ (s : State). ran_as (performed (gives 9 s) c.loop-read.read)) c.with_partial.ensures))
