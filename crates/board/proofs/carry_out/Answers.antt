-- `board::carry_out` meets its contract: what each arm's command needs beside its mode and
-- legal data.
-- Assumes nothing.
use Rattle.std.proofs.Common.{◌≡◌, ◌∙◌, refl, sym, ap, ℕ, List, [], ◌∷◌, length, take, arith}
use mathlib.Core.Bool.{true}
use mathlib.Core.Path.{subst}
use borrow.Author.Tests.{eq-eqb, ne_eqb}
use Rattle.packet.specs.Packets.{answer_bytes}
use Rattle.command.specs.CommandTable.{legal_of}
use Rattle.command.specs.Commands.{message}
use Rattle.command.specs.declared.Command.{Command}
use Rattle.command.specs.declared.Command.TheVariants as cmd
use Rattle.command.specs.declared.Message.{Message}
use Rattle.board.specs.Judge.{nothing, status_of, effect_of}
use Rattle.board.proofs.LegalLaws.{play_song, sensors_listable, query_short, query_listable}
use Rattle.board.proofs.OutcomeLaws.{sent_as_lem, sent_gives, sent_fitted}
use Rattle.board.proofs.JudgeLaws.{carried, carried_plain, carried_unset, carried_busy, carried_play, carried_sensors, carried_query}
use Rattle.board.proofs.carry_out.Goals as goal

-- the data are legal, of the variant that the command is
legal : (m : Message) {x : Command} → legal_of m ≡ true → m.command ≡ x → legal_of (message x m.payload) ≡ true
legal m r e = subst (λ (x : Command). legal_of (message x m.payload) ≡ true) e r

-- ---- 141

pub is_set-requires : goal.is_set-requires
is_set-requires c = play_song c.in-Play.song c.args.message.payload (legal c.args.message c.requires c.in-Play.is)

pub returns-then-not-is_set : goal.returns-then-not-is_set
returns-then-not-is_set c =
    let a = c.args in
    let room = length a.buffer.now in
    sent_gives a.state.now a.buffer.now
    (ap (carried a.state.now a.message.payload a.image.now room) c.in-Play.is
    ∙ carried_unset a.state.now a.message.payload a.image.now room c.in-Play.song (sym c.is_set.ensures ∙ c.if-not-is_set.true))
    refl

pub returns-then-state-eq-YES : goal.returns-then-state-eq-YES
returns-then-state-eq-YES c =
    let a = c.args in
    let room = length a.buffer.now in
    sent_gives a.state.now a.buffer.now
    (ap (carried a.state.now a.message.payload a.image.now room) c.in-Play.is
    ∙ carried_busy a.state.now a.message.payload a.image.now room c.in-Play.song (sym c.is_set.ensures ∙ c.if-not-is_set.false) (eq-eqb _ _ c.if-state-eq-YES.true))
    refl

pub returns-else-state-eq-YES : goal.returns-else-state-eq-YES
returns-else-state-eq-YES c =
    let a = c.args in
    let room = length a.buffer.now in
    sent_gives _ a.buffer.now
    (ap (carried a.state.now a.message.payload a.image.now room) c.in-Play.is
    ∙ carried_play a.state.now a.message.payload a.image.now room c.in-Play.song (sym c.is_set.ensures ∙ c.if-not-is_set.false) (ne_eqb _ _ c.if-state-eq-YES.false))
    refl

-- ---- 142

pub returns-in-Sensors : goal.returns-in-Sensors
returns-in-Sensors c =
    let a = c.args in
    let id = c.in-Sensors.id in
    sent_as_lem a.buffer.now
    (ap (carried a.state.now a.message.payload a.image.now (length a.buffer.now)) c.in-Sensors.is ∙ carried_sensors a.state.now a.message.payload a.image.now (length a.buffer.now) id)
    (sent_fitted (answer_bytes (status_of a.state.now) a.image.now (id ∷ [])) a.buffer.now a.state.now
    (sensors_listable id a.message.payload (legal a.message c.requires c.in-Sensors.is)) (rw c.status_of.ensures at c.answer.ensures))

-- ---- 149

pub shared_ref_as_front-ids : goal.shared_ref_as_front-ids
shared_ref_as_front-ids c =
    let n = query_short c.in-QueryList.ids c.args.message.payload (legal c.args.message c.requires c.in-QueryList.is) in
    omega (arith, c.from.ensures)

pub returns-in-QueryList : goal.returns-in-QueryList
returns-in-QueryList c =
    let a = c.args in
    let n = c.in-QueryList.ids in
    let p = a.message.payload in
    sent_as_lem a.buffer.now (ap (carried a.state.now p a.image.now (length a.buffer.now)) c.in-QueryList.is ∙ carried_query a.state.now p a.image.now (length a.buffer.now) n)
    (sent_fitted (answer_bytes (status_of a.state.now) a.image.now (take n p)) a.buffer.now a.state.now
    (query_listable n p (legal a.message c.requires c.in-QueryList.is)) (rw (c.status_of-in-QueryList.ensures, c.from.ensures) at c.answer-in-QueryList.ensures))

-- ---- all others

needs_nothing : (x : Command) (p : List ℕ) → ((n : ℕ) → x ≡ cmd.Play n → ⊥) → ((n : ℕ) → x ≡ cmd.Sensors n → ⊥) → ((n : ℕ) → x ≡ cmd.QueryList n → ⊥)
    → (effect_of x p).needs ≡ nothing
needs_nothing cmd.Start p a b c = refl
needs_nothing (cmd.Baud n) p a b c = refl
needs_nothing cmd.Control p a b c = refl
needs_nothing cmd.Safe p a b c = refl
needs_nothing cmd.Full p a b c = refl
needs_nothing cmd.Power p a b c = refl
needs_nothing (cmd.Demo n) p a b c = refl
needs_nothing cmd.Spot p a b c = refl
needs_nothing cmd.Cover p a b c = refl
needs_nothing cmd.Dock p a b c = refl
needs_nothing (cmd.Drive v r) p a b c = refl
needs_nothing (cmd.Direct v w) p a b c = refl
needs_nothing (cmd.Drivers n) p a b c = refl
needs_nothing (cmd.Duties x y z) p a b c = refl
needs_nothing (cmd.Leds x y z) p a b c = refl
needs_nothing (cmd.Outputs n) p a b c = refl
needs_nothing (cmd.Infrared n) p a b c = refl
needs_nothing (cmd.Song n k) p a b c = refl
needs_nothing (cmd.Play n) p a b c = absurd (a n refl)
needs_nothing (cmd.Sensors n) p a b c = absurd (b n refl)
needs_nothing (cmd.QueryList n) p a b c = absurd (c n refl)
needs_nothing (cmd.Stream n) p a b c = refl
needs_nothing (cmd.Pause n) p a b c = refl
needs_nothing (cmd.Unknown n) p a b c = refl
needs_nothing (cmd.NotOffered n) p a b c = refl

pub returns-in_default : goal.returns-in_default
returns-in_default c =
    let a = c.args in
    let x = a.message.command in
    let p = a.message.payload in
    sent_gives _ a.buffer.now (carried_plain a.state.now p a.image.now (length a.buffer.now) x (needs_nothing x p c.in_default.not-Play c.in_default.not-Sensors c.in_default.not-QueryList))
    refl
