-- Image and room decide the answer alone: the record after a byte or a tick is the same with
-- others.
-- Assumes nothing.
use mathlib.Core.Path.{◌≡◌, refl, sym, ap, ◌∙◌}
use mathlib.Core.Bool.{Bool, true, false, not, cond}
use mathlib.Core.List.{List, [], ◌∷◌}
use Prim.Native.Nat.{ℕ}
use lib.Dec.{leb, leb-zero}
use lib.ListN.{length, take}
use Rattle.wire.proofs.BoolLaws.{cond_is}
use Rattle.frame.specs.Push.{push_of, empty_partial}
use Rattle.command.specs.Layout.{decode_of}
use Rattle.command.specs.declared.Command.{Command}
use Rattle.command.specs.declared.Command.TheVariants as cmd
use Rattle.command.specs.declared.Message.{Message}
use Rattle.state.specs.State.{with_partial}
use Rattle.state.specs.Accepted.{accepted_of}
use Rattle.state.specs.declared.State.{State}
use Rattle.board.specs.Outcome.{Outcome, gives, answers}
use Rattle.board.specs.Judge.{Needs, nothing, a_song, packets, effect_of, effect_in, answer_of, Rule, rules, first, judge_of}
use Rattle.board.specs.Calls.{byte_of, fed_of, tick_of}
use Rattle.board.proofs.CallsLaws.{tick_is}

-- a command that asks for packets leaves the record as it is
abbrev settled : Needs → State → State → State
settled nothing s u = u
settled (a_song n) s u = u
settled (packets ids) s u = s

asks_keep : (c : Command) (p : List ℕ) (s : State) → (effect_of c p).sets s ≡ settled (effect_of c p).needs s ((effect_of c p).sets s)
asks_keep cmd.Start p s = refl
asks_keep (cmd.Baud code) p s = refl
asks_keep cmd.Control p s = refl
asks_keep cmd.Safe p s = refl
asks_keep cmd.Full p s = refl
asks_keep cmd.Power p s = refl
asks_keep (cmd.Demo number) p s = refl
asks_keep cmd.Spot p s = refl
asks_keep cmd.Cover p s = refl
asks_keep cmd.Dock p s = refl
asks_keep (cmd.Drive velocity radius) p s = refl
asks_keep (cmd.Direct right left) p s = refl
asks_keep (cmd.Drivers bits) p s = refl
asks_keep (cmd.Duties driver2 driver1 driver0) p s = refl
asks_keep (cmd.Leds bits color intensity) p s = refl
asks_keep (cmd.Outputs bits) p s = refl
asks_keep (cmd.Infrared code) p s = refl
asks_keep (cmd.Song number notes) p s = refl
asks_keep (cmd.Play number) p s = refl
asks_keep (cmd.Sensors id) p s = refl
asks_keep (cmd.QueryList ids) p s = refl
asks_keep (cmd.Stream ids) p s = refl
asks_keep (cmd.Pause on) p s = refl
asks_keep (cmd.Unknown op) p s = refl
asks_keep (cmd.NotOffered op) p s = refl

-- two outcomes that leave the same record, behind the same test
same_behind : (b : Bool) (o x y : Outcome) → x.state ≡ y.state → (cond b o x).state ≡ (cond b o y).state
same_behind true o x y e = refl
same_behind false o x y e = e

same_else : (b : Bool) (o x y : Outcome) → x.state ≡ y.state → (cond b x o).state ≡ (cond b y o).state
same_else true o x y e = e
same_else false o x y e = refl

same_first : (rs : List Rule) (s : State) (x y : Outcome) → x.state ≡ y.state → (first rs s x).state ≡ (first rs s y).state
same_first [] s x y e = e
same_first (r ∷ rs) s x y e = same_behind r.when (gives r.number s) (first rs s x) (first rs s y) (same_first rs s x y e)

-- the last rule, 7
abbrev roomed : State → State → List ℕ → ℕ → Outcome
roomed s u bytes room = cond (not (leb (length bytes) room)) (gives 7 s) (answers bytes u)

roomed_is : (s u : State) (n : Needs) (image : List ℕ) (room : ℕ) → u ≡ settled n s u → (roomed s u (answer_of s n image) room).state ≡ u
roomed_is s u nothing image room e = ap (λ (b : Bool). (cond (not b) (gives 7 s) (answers [] u)).state) (leb-zero room)
roomed_is s u (a_song n) image room e = ap (λ (b : Bool). (cond (not b) (gives 7 s) (answers [] u)).state) (leb-zero room)
roomed_is s u (packets ids) image room e =
    cond_is (λ (o : Outcome). o.state ≡ u) (not (leb (length (answer_of s (packets ids) image)) room)) (λ t. sym e) (λ t. refl)

module _ (image image' : List ℕ) (room room' : ℕ) where
  judge_any : (s : State) (m : Message) → (judge_of s m image room).state ≡ (judge_of s m image' room').state
  unfolding judge_of
  judge_any s m =
      let n = (effect_in m).needs in
      let u = (effect_in m).sets s in
      let keeps = asks_keep m.command m.payload s in
      same_first (take 6 (rules s m image room)) s (roomed s u (answer_of s n image) room) (roomed s u (answer_of s n image') room')
      (roomed_is s u n image room keeps ∙ sym (roomed_is s u n image' room' keeps))

  pub byte_any : (s : State) (b : ℕ) → (byte_of s b image room).state ≡ (byte_of s b image' room').state
  unfolding byte_of fed_of
  byte_any s b =
      let p = push_of s.partial b in
      same_else (accepted_of s) (gives 8 s) (fed_of s p image room) (fed_of s p image' room')
      (same_else p.complete (gives 9 (with_partial p.partial s)) _ _ (judge_any (with_partial empty_partial s) (decode_of p.partial.bytes)))

-- a tick leaves the record as it is
pub tick_keeps : (s : State) (image : List ℕ) (room : ℕ) → (tick_of s image room).state ≡ s
tick_keeps s image room = tick_is (λ (o : Outcome). o.state ≡ s) s image room (λ e. refl) (λ e. refl) refl (λ l. refl) (λ m t l. refl)
