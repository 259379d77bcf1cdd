-- Laws of what a command does.
-- Assumes nothing.
use mathlib.Core.Path.{◌≡◌, refl, sym, subst, ◌∙◌}
use mathlib.Core.Bool.{Bool, true, false, not, cond}
use mathlib.Core.List.{List, [], ◌∷◌}
use Prim.Native.Nat.{ℕ, zero, suc, ◌≤◌, ◌<◌, zero-le, ◌/◌, ◌%◌}
use native.Mathlib.Omega.{arith}
use lib.Dec.{T, leb, ltb, eqb, leb→le, ltb→lt, leb-zero}
use lib.ListN.{length, get_or, take, drop}
use mir.Facts.{and_yes, yes_and, T_not-not}
use borrow.Author.Tests.{le-leb, eq-eqb, ne_eqb, not-true, not-false}
use Rattle.wire.specs.Lists.{all, within, byte_array}
use Rattle.wire.proofs.BoolLaws.{is_true, to_T, cond-not, cond-true, cond-false}
use Rattle.wire.proofs.ListsLaws.{among_all, all-at}
use Rattle.frame.specs.declared.Partial.{Partial}
use Rattle.packet.specs.Packets.{answer_bytes}
use Rattle.command.specs.Layout.{refusal_of}
use Rattle.command.specs.CommandTable.{row_of, allowed_of, legal_of}
use Rattle.command.specs.Commands.{message, unused_zero, Sendable}
use Rattle.command.specs.declared.Command.{Command}
use Rattle.command.specs.declared.Command.TheVariants as cmd
use Rattle.command.specs.declared.Message.{Message}
use Rattle.command.proofs.VariantLaws.{every}
use Rattle.command.proofs.CommandTableLaws.{from_off}
use Rattle.command.proofs.CommandsProved.{data_column}
use Rattle.state.specs.State.{is_yes, song_at, to_passive, with_baud, with_list, with_partial}
use Rattle.state.specs.Accepted.{is_set, accepted_of}
use Rattle.state.specs.Record.{StaysAccepted}
use Rattle.state.specs.declared.State.{State}
use Rattle.state.proofs.RecordProved.{accepted_stays}
use Rattle.board.specs.Outcome.{Outcome, gives, answers, fitted}
use Rattle.board.specs.Judge.{status_of, duty_of, Needs, nothing, a_song, packets, busy, effect_of, effect_in, answer_of, no_song, Rule, ◌if◌, rules, first, judged_by, judge_of}
use Rattle.board.proofs.LegalLaws.{pause_on}

-- ---- effect_of

-- a command by what it needs
pub data Kind (p : List ℕ) : Command → Type 0 where
  plain : {c : Command} → (effect_of c p).needs ≡ nothing → Kind p c
  play : (n : ℕ) → Kind p (cmd.Play n)
  sensors : (id : ℕ) → Kind p (cmd.Sensors id)
  query : (n : ℕ) → Kind p (cmd.QueryList n)

-- no command touches the held frame
pub kind : (p : List ℕ) (s : State) (c : Command) → Kind p c × (((effect_of c p).sets s).partial ≡ s.partial)
kind p s cmd.Start = (plain refl, refl)
kind p s (cmd.Baud code) = (plain refl, refl)
kind p s cmd.Control = (plain refl, refl)
kind p s cmd.Safe = (plain refl, refl)
kind p s cmd.Full = (plain refl, refl)
kind p s cmd.Power = (plain refl, refl)
kind p s (cmd.Demo demo) = (plain refl, refl)
kind p s cmd.Spot = (plain refl, refl)
kind p s cmd.Cover = (plain refl, refl)
kind p s cmd.Dock = (plain refl, refl)
kind p s (cmd.Drive velocity radius) = (plain refl, refl)
kind p s (cmd.Direct right left) = (plain refl, refl)
kind p s (cmd.Drivers bits) = (plain refl, refl)
kind p s (cmd.Duties driver2 driver1 driver0) = (plain refl, refl)
kind p s (cmd.Leds bits color intensity) = (plain refl, refl)
kind p s (cmd.Outputs bits) = (plain refl, refl)
kind p s (cmd.Infrared code) = (plain refl, refl)
kind p s (cmd.Song song notes) = (plain refl, refl)
kind p s (cmd.Play song) = (play song, refl)
kind p s (cmd.Sensors id) = (sensors id, refl)
kind p s (cmd.QueryList ids) = (query ids, refl)
kind p s (cmd.Stream ids) = (plain refl, refl)
kind p s (cmd.Pause on) = (plain refl, refl)
kind p s (cmd.Unknown op) = (plain refl, refl)
kind p s (cmd.NotOffered op) = (plain refl, refl)

-- a command whose modes are Safe and Full
driven : (c : Command) (mode : ℕ) → T (all (ltb 1) (row_of c).modes) → T (allowed_of c mode) → 1 < mode
unfolding allowed_of
driven c mode t u = ltb→lt 1 mode (among_all (ltb 1) (row_of c).modes mode t u)

-- 138's duties are legal as 144's
duty_legal : (bits place : ℕ) → leb (duty_of bits place) 128 ≡ true
duty_legal bits place = go (eqb (bits / place % 2) 1)
  where
    go : (b : Bool) → leb (cond b 128 0) 128 ≡ true
    go true = refl
    go false = refl

duties_legal_lem : (bits : ℕ) (p : List ℕ) → T (legal_of (message (cmd.Duties (duty_of bits 4) (duty_of bits 2) (duty_of bits 1)) p))
duties_legal_lem bits p =
    to_T _ (data_column.duties_legal_lem (duty_of bits 4) (duty_of bits 2) (duty_of bits 1) p ∙ simp (duty_legal bits 4, duty_legal bits 2, duty_legal bits 1))

-- what a command sets, in its modes and with legal data
module _ (s : State) (t : T (accepted_of s)) where
  abbrev k : StaysAccepted s
  k = accepted_stays s t

  effect_accepted : (c : Command) (p : List ℕ) → T (allowed_of c s.mode) → Sendable (message c p) → no_song s (effect_of c p).needs ≡ false
      → T (accepted_of ((effect_of c p).sets s))
  unfolding row_of
  effect_accepted cmd.Start p a m e = k.passive_kept
  effect_accepted (cmd.Baud code) p a m e = (accepted_stays (with_baud code s) (k.baud_kept code p (to_T _ m.legal))).passive_kept
  effect_accepted cmd.Control p a m e = k.mode_kept 2 (omega arith) (λ (h : 2 ≤ 1). absurd (omega arith))
  effect_accepted cmd.Safe p a m e = k.mode_kept 2 (omega arith) (λ (h : 2 ≤ 1). absurd (omega arith))
  effect_accepted cmd.Full p a m e = k.mode_kept 3 (omega arith) (λ (h : 3 ≤ 1). absurd (omega arith))
  effect_accepted cmd.Power p a m e = k.passive_kept
  effect_accepted (cmd.Demo demo) p a m e = k.passive_kept
  effect_accepted cmd.Spot p a m e = k.passive_kept
  effect_accepted cmd.Cover p a m e = k.passive_kept
  effect_accepted cmd.Dock p a m e = k.passive_kept
  effect_accepted (cmd.Drive v r) p a m e = k.drive_kept v r p (driven (cmd.Drive v r) s.mode tt a) (to_T _ m.legal)
  effect_accepted (cmd.Direct v w) p a m e = k.direct_kept v w p (driven (cmd.Direct v w) s.mode tt a) (to_T _ m.legal)
  effect_accepted (cmd.Drivers bits) p a m e = k.duties_kept _ _ _ p (driven (cmd.Drivers bits) s.mode tt a) (duties_legal_lem bits p)
  effect_accepted (cmd.Duties x y z) p a m e = k.duties_kept z y x p (driven (cmd.Duties x y z) s.mode tt a) (to_T _ m.legal)
  effect_accepted (cmd.Leds x y z) p a m e = k.leds_kept x y z p (to_T _ m.legal)
  effect_accepted (cmd.Outputs bits) p a m e = k.outputs_kept bits p (to_T _ m.legal)
  effect_accepted (cmd.Infrared code) p a m e = k.infrared_kept code p (to_T _ m.legal)
  effect_accepted (cmd.Song song notes) p a m e = k.song_kept song notes p m
  effect_accepted (cmd.Play song) p a m e = k.play_kept song p (to_T _ m.legal) (to_T _ (not-false (is_set (song_at s.songs song)) e))
  effect_accepted (cmd.Sensors id) p a m e = t
  effect_accepted (cmd.QueryList ids) p a m e = t
  effect_accepted (cmd.Stream ids) p a m e = (accepted_stays (with_list ids (take 16 p) s) (k.list_kept ids p m)).streaming_kept 1 p (pause_on p)
  effect_accepted (cmd.Pause on) p a m e = k.streaming_kept on p (to_T _ m.legal)
  effect_accepted (cmd.Unknown op) p a m e = t
  effect_accepted (cmd.NotOffered op) p a m e = t

-- ---- first

abbrev numbered : Rule → Bool
numbered r = within 1 7 r.number

abbrev passed : Rule → Bool
passed r = not r.when

-- what holds of each number from 1 to 7 with the record as it is, and of the outcome otherwise,
-- where no rule applies, holds of what is given
module _ (P : Outcome → Type 0) (s : State) (refused : (n : ℕ) → 1 ≤ n → n ≤ 7 → P (gives n s)) where
  one_rule : (n : ℕ) (b : Bool) (x : Outcome) → T (within 1 7 n) → (T (not b) → P x) → P (cond b (gives n s) x)
  one_rule n true x t f = let a = and_yes (leb 1 n) (leb n 7) t in refused n (leb→le 1 n a.0) (leb→le n 7 a.1)
  one_rule n false x t f = f tt

  first_is : (rs : List Rule) (o : Outcome) → T (all numbered rs) → (T (all passed rs) → P o) → P (first rs s o)
  first_is [] o t f = f tt
  first_is (r ∷ rs) o t f =
      let a = and_yes (numbered r) (all numbered rs) t in
      one_rule r.number r.when (first rs s o) a.0 (λ u. first_is rs o a.1 (λ v. f (yes_and (passed r) (all passed rs) u v)))

-- the outcome o, with another record: s where it is a refusal, u where it is done
abbrev leaving : Outcome → State → State → Outcome
leaving o s u = cond (eqb o.number 0) (answers o.answer u) (gives o.number s)

one_leaving : (n : ℕ) (b : Bool) (x y : Outcome) (s t u : State) → T (within 1 7 n) → y ≡ leaving x t u → cond b (gives n t) y ≡ leaving (cond b (gives n s) x) t u
one_leaving n true x y s t u w e =
    let h = leb→le 1 n (and_yes (leb 1 n) (leb n 7) w).0 in
    sym (cond-false (eqb n 0) _ _ (ne_eqb n 0 (λ (z : n ≡ 0). omega arith)))
one_leaving n false x y s t u w e = e

-- number and answer do not depend on the records
first_leaving : (s t u v : State) (bytes : List ℕ) (rs : List Rule) → T (all numbered rs)
    → first rs t (answers bytes v) ≡ leaving (first rs s (answers bytes u)) t v
first_leaving s t u v bytes [] w = refl
first_leaving s t u v bytes (r ∷ rs) w =
    let a = and_yes (numbered r) (all numbered rs) w in
    one_leaving r.number r.when (first rs s (answers bytes u)) (first rs t (answers bytes v)) s t v a.0 (first_leaving s t u v bytes rs a.1)

-- what a command needs does not depend on what is held

held : (s : State) (p : Partial) (image : List ℕ) (n : Needs)
    → (no_song (with_partial p s) n ≡ no_song s n) × ((busy (with_partial p s) n ≡ busy s n) × (answer_of (with_partial p s) n image ≡ answer_of s n image))
unfolding status_of
held s p image nothing = (refl, (refl, refl))
held s p image (a_song k) = (refl, (refl, refl))
held s p image (packets ids) = (refl, (refl, refl))

-- ---- judge_of

module _ (s : State) (m : Message) (image : List ℕ) (room : ℕ) where
  abbrev answer : List ℕ
  answer = answer_of s (effect_in m).needs image

  -- what holds of a command that is done: of the rules none applies
  record Done : Type 0 where
    allowed : T (allowed_of m.command s.mode)
    legal : legal_of m ≡ true
    song : no_song s (effect_in m).needs ≡ false
    fits : length answer ≤ room

  done : T (all passed (rules s m image room)) → Done
  done t =
      let at : (i : ℕ) → i < 7 → T (passed (get_or (rules s m image room) i (0 if false))) = λ i h. all-at passed (0 if false) (rules s m image room) i h t in
      record {
        allowed = T_not-not (allowed_of m.command s.mode) (at 2 (omega arith));
        legal = is_true (legal_of m) (T_not-not (legal_of m) (at 3 (omega arith)));
        song = not-true (no_song s (effect_in m).needs) (is_true _ (at 4 (omega arith)));
        fits = leb→le (length answer) room (T_not-not (leb (length answer) room) (at 6 (omega arith)));
      }

  -- a refusal, or a command that is done
  judge_is : (P : Outcome → Type 0) → ((n : ℕ) → 1 ≤ n → n ≤ 7 → P (gives n s)) → (Done → P (answers answer ((effect_in m).sets s)))
      → P (judge_of s m image room)
  unfolding judge_of
  judge_is P f g = first_is P s f (rules s m image room) (answers answer ((effect_in m).sets s)) tt (λ t. g (done t))

  -- numbers 0 to 7
  pub judge_small : (judge_of s m image room).number ≤ 7
  judge_small = judge_is (λ (o : Outcome). o.number ≤ 7) (λ n a b. b) (λ d. omega arith)

  -- another number than 0 leaves the record as it is, and has no answer
  pub judge_refused : ((judge_of s m image room).number ≡ 0 → ⊥) → judge_of s m image room ≡ gives (judge_of s m image room).number s
  judge_refused = judge_is (λ (o : Outcome). (o.number ≡ 0 → ⊥) → o ≡ gives o.number s) (λ n a b h. refl) (λ d h. absurd (h refl))

  -- 0 is given to legal data alone
  pub judge_legal : (judge_of s m image room).number ≡ 0 → legal_of m ≡ true
  judge_legal = judge_is (λ (o : Outcome). o.number ≡ 0 → legal_of m ≡ true) (λ n a b (e : n ≡ 0). absurd (omega arith)) (λ d e. d.legal)

  -- number and answer are the same whatever is held
  module _ (p : Partial) where
    judge_held : judge_of (with_partial p s) m image room ≡ leaving (judge_of s m image room) (with_partial p s) ((effect_in m).sets (with_partial p s))
    unfolding judge_of
    judge_held =
        let h = held s p image (effect_in m).needs in
        rw (h.0, h.1.0, h.1.1)
        (first_leaving s (with_partial p s) ((effect_in m).sets s) ((effect_in m).sets (with_partial p s)) answer (rules s m image room) tt)

    pub held_refused : ((judge_of s m image room).number ≡ 0 → ⊥)
        → judge_of (with_partial p s) m image room ≡ gives (judge_of s m image room).number (with_partial p s)
    held_refused h = judge_held ∙ cond-false (eqb (judge_of s m image room).number 0) _ _ (ne_eqb (judge_of s m image room).number 0 h)

    pub held_done : (judge_of s m image room).number ≡ 0
        → judge_of (with_partial p s) m image room ≡ answers (judge_of s m image room).answer ((effect_in m).sets (with_partial p s))
    held_done e = judge_held ∙ cond-true (eqb (judge_of s m image room).number 0) _ _ (eq-eqb (judge_of s m image room).number 0 e)

  -- data not legal: no effect
  pub judge_illegal : legal_of m ≡ false → (judge_of s m image room).state ≡ s
  judge_illegal e = judge_is (λ (o : Outcome). o.state ≡ s) (λ n a b. refl) (λ d. absurd (subst T (sym d.legal ∙ e) tt))

  -- an answer has room
  pub judge_room : length (judge_of s m image room).answer ≤ room
  judge_room = judge_is (λ (o : Outcome). length o.answer ≤ room) (λ n a b. zero-le) (λ d. d.fits)

  -- no command touches the held frame
  pub judge_partial : (judge_of s m image room).state.partial ≡ s.partial
  judge_partial = judge_is (λ (o : Outcome). o.state.partial ≡ s.partial) (λ n a b. refl) (λ d. (kind m.payload s m.command).1)

  -- an accepted record stays accepted, where the message is one that is read
  pub judge_accepted : T (accepted_of s) → T (byte_array 32 m.payload) → T (unused_zero m) → T (accepted_of (judge_of s m image room).state)
  judge_accepted t u v =
      judge_is (λ (o : Outcome). T (accepted_of o.state)) (λ n a b. t)
      (λ d. effect_accepted s t m.command m.payload d.allowed (record { legal = d.legal; array = u; unused = v }) d.song)

-- Start: Passive, stop, in all four modes
pub judge_start : (s : State) (p image : List ℕ) (room : ℕ) → s.mode ≤ 3 → judge_of s (message cmd.Start p) image room ≡ gives 0 (to_passive s)
unfolding row_of allowed_of legal_of judge_of
judge_start s p image room h = simp (sym (from_off s.mode (omega arith)) ∙ le-leb s.mode 3 h, leb-zero room)

-- ---- judge_of, test by test

pub refusal_small : (c : Command) → T (leb (refusal_of c) 2)
refusal_small = every (λ (c : Command). leb (refusal_of c) 2) (λ a b d v w. tt)

as_such : (x : Outcome) (s : State) (n : ℕ) → n ≤ 2 → (n ≡ 0 → ⊥) → cond (eqb n 1) (gives 1 s) (cond (eqb n 2) (gives 2 s) x) ≡ gives n s
as_such x s zero h e = absurd (e refl)
as_such x s (suc zero) h e = refl
as_such x s (suc (suc zero)) h e = refl
as_such x s (suc (suc (suc n))) h e = absurd (omega arith)

module _ (s : State) (m : Message) (image : List ℕ) (room : ℕ) where
  -- 1 and 2: a variant that is refused as such
  pub judge_as_such : (refusal_of m.command ≡ 0 → ⊥) → judge_of s m image room ≡ gives (refusal_of m.command) s
  unfolding judge_of
  judge_as_such e = as_such _ s (refusal_of m.command) (leb→le (refusal_of m.command) 2 (refusal_small m.command)) e

  pub judge_mode : refusal_of m.command ≡ 0 → allowed_of m.command s.mode ≡ false → judge_of s m image room ≡ gives 3 s
  unfolding judge_of
  judge_mode e a = rw (e, a) refl

  pub judge_data : refusal_of m.command ≡ 0 → allowed_of m.command s.mode ≡ true → legal_of m ≡ false → judge_of s m image room ≡ gives 4 s
  unfolding judge_of
  judge_data e a l = rw (e, a, l) refl

  -- the rules that are left
  pub judge_left : refusal_of m.command ≡ 0 → allowed_of m.command s.mode ≡ true → legal_of m ≡ true
      → judge_of s m image room ≡ judged_by (drop 4 (rules s m image room)) s m image
  unfolding judge_of
  judge_left e a l = rw (e, a, l) refl

-- ---- the rules that are left of a command with legal data

module _ (s : State) (p image : List ℕ) (room : ℕ) where
  -- by its variant
  abbrev pub carried : Command → Outcome
  carried c = judged_by (drop 4 (rules s (message c p) image room)) s (message c p) image

  pub carried_plain : (c : Command) → (effect_of c p).needs ≡ nothing → carried c ≡ gives 0 ((effect_of c p).sets s)
  carried_plain c e = rw (e, leb-zero room) refl

  -- 141: 5, then 6
  module _ (n : ℕ) where
    pub carried_unset : is_set (song_at s.songs n) ≡ false → carried (cmd.Play n) ≡ gives 5 s
    carried_unset e = rw e refl

    pub carried_busy : is_set (song_at s.songs n) ≡ true → is_yes s.songs.playing ≡ true → carried (cmd.Play n) ≡ gives 6 s
    carried_busy e q = rw (e, q) refl

    pub carried_play : is_set (song_at s.songs n) ≡ true → is_yes s.songs.playing ≡ false → carried (cmd.Play n) ≡ gives 0 ((effect_of (cmd.Play n) p).sets s)
    carried_play e q = rw (e, q, leb-zero room) refl

  -- 142 and 149
  pub carried_sensors : (id : ℕ) → carried (cmd.Sensors id) ≡ fitted (answer_bytes (status_of s) image (id ∷ [])) room s
  carried_sensors id = cond-not (leb (length (answer_bytes (status_of s) image (id ∷ []))) room) _ _

  pub carried_query : (ids : ℕ) → carried (cmd.QueryList ids) ≡ fitted (answer_bytes (status_of s) image (take ids p)) room s
  carried_query ids = cond-not (leb (length (answer_bytes (status_of s) image (take ids p))) room) _ _
