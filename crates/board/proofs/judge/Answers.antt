-- `board::judge` meets its contract: the numbers in their order.
-- Assumes nothing.
use Rattle.std.proofs.Common.{◌∙◌, sym, ap, refl, ℕ, length}
use Rattle.std.proofs.lemmas.Result.{err_from_is_err_and}
use Rattle.board.proofs.OutcomeLaws.{sent_as_lem, sent_gives, number_above}
use Rattle.board.proofs.JudgeLaws.{judge_as_such, judge_mode, judge_data, judge_left}
use Rattle.board.specs.Outcome.{number_in}
use Rattle.board.proofs.judge.Goals as goal

pub returns-in_err-offered : goal.returns-in_err-offered
returns-in_err-offered c =
    let p = err_from_is_err_and c.from_residual.result c.from_residual.ensures.1 in
    rw (p.1, p.2)
    (sent_gives c.args.state.now c.args.buffer.now
    (judge_as_such c.args.state.now c.args.message c.args.image.now (length c.args.buffer.now) (λ e. number_above _ (c.in_err-offered.ensures ∙ e)))
    (ap (λ (n : ℕ). record { number = n; length = 0 }) c.in_err-offered.ensures))

pub returns-then-not-allowed : goal.returns-then-not-allowed
returns-then-not-allowed c =
    sent_gives c.args.state.now c.args.buffer.now
    (judge_mode c.args.state.now c.args.message c.args.image.now (length c.args.buffer.now)
    (sym c.offered.ensures ∙ ap number_in c.in_ok-offered.was)
    (sym c.allowed.ensures ∙ c.if-not-allowed.true))
    refl

pub returns-then-not-legal : goal.returns-then-not-legal
returns-then-not-legal c =
    sent_gives c.args.state.now c.args.buffer.now
    (judge_data c.args.state.now c.args.message c.args.image.now (length c.args.buffer.now)
    (sym c.offered.ensures ∙ ap number_in c.in_ok-offered.was)
    (sym c.allowed.ensures ∙ c.if-not-allowed.false)
    (sym c.legal.ensures ∙ c.if-not-legal.true))
    refl

pub returns : goal.returns
returns c =
    sent_as_lem c.args.buffer.now
    (judge_left c.args.state.now c.args.message c.args.image.now (length c.args.buffer.now)
    (sym c.offered.ensures ∙ ap number_in c.in_ok-offered.was)
    (sym c.allowed.ensures ∙ c.if-not-allowed.false)
    (sym c.legal.ensures ∙ c.if-not-legal.false))
    c.carry_out.ensures
