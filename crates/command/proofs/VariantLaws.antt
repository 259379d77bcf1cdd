-- A test of a command that passes whatever the command's numbers are is computed once for each
-- variant, and holds of every command.
-- Assumes nothing.
use mathlib.Core.Path.{◌≡◌, refl, subst}
use mathlib.Core.Bool.{Bool}
use mathlib.Core.List.{List, [], ◌∷◌}
use Prim.Native.Nat.{ℕ, zero-le}
use native.Mathlib.Omega.{arith}
use lib.Dec.{T, ltb, ltb→lt}
use lib.IntN.{ℤ, pos}
use lib.ListN.{get_or}
use types.Run.{OneOf}
use denote.Enum.Declared.{tag_of}
use Rattle.wire.specs.Lists.{all, all_from}
use Rattle.wire.proofs.ListsLaws.{from}
use Rattle.wire.proofs.MatchLaws.{one_of}
use Rattle.command.specs.declared.Command.{Command}
use Rattle.command.specs.declared.Command.TheVariants.{Start, Baud, Control, Safe, Full, Power, Demo, Spot, Cover, Dock, Drive, Direct, Drivers, Duties, Leds, Outputs, Infrared, Song, Play, Sensors, QueryList, Stream, Pause, Unknown, NotOffered}
use Rattle.command.specs.contracts.Command.{the_type}

-- the variants in the order of their tags, at these numbers
module _ (a b d : ℕ) (v w : ℤ) where
  abbrev variants : List Command
  variants =
      Start ∷ Baud a ∷ Control ∷ Safe ∷ Full ∷ Power ∷ Demo v ∷ Spot ∷ Cover ∷ Dock ∷ Drive v w ∷ Direct v w ∷ Drivers a ∷ Duties a b d ∷ Leds a b d
      ∷ Outputs a ∷ Infrared a ∷ Song a b ∷ Play a ∷ Sensors a ∷ QueryList a ∷ Stream a ∷ Pause a ∷ Unknown a ∷ NotOffered a ∷ []

  abbrev pub variant : ℕ → Command
  variant k = get_or variants k Start

-- a command as the variant of its tag
record Shape (c : Command) : Type 0 where
  a : ℕ
  b : ℕ
  d : ℕ
  v : ℤ
  w : ℤ
  is : variant a b d v w (tag_of the_type c) ≡ c
  small : T (ltb (tag_of the_type c) 25)

module _ {c : Command} where
  abbrev shaped : (a b d : ℕ) (v w : ℤ) → variant a b d v w (tag_of the_type c) ≡ c → T (ltb (tag_of the_type c) 25) → Shape c
  shaped a b d v w e t = record { a = a; b = b; d = d; v = v; w = w; is = e; small = t }

  abbrev bytes : (a b d : ℕ) → variant a b d (pos 0) (pos 0) (tag_of the_type c) ≡ c → T (ltb (tag_of the_type c) 25) → Shape c
  bytes a b d = shaped a b d (pos 0) (pos 0)

shape : (c : Command) → Shape c
shape Start = bytes 0 0 0 refl tt
shape (Baud a) = bytes a 0 0 refl tt
shape Control = bytes 0 0 0 refl tt
shape Safe = bytes 0 0 0 refl tt
shape Full = bytes 0 0 0 refl tt
shape Power = bytes 0 0 0 refl tt
shape (Demo v) = shaped 0 0 0 v (pos 0) refl tt
shape Spot = bytes 0 0 0 refl tt
shape Cover = bytes 0 0 0 refl tt
shape Dock = bytes 0 0 0 refl tt
shape (Drive v w) = shaped 0 0 0 v w refl tt
shape (Direct v w) = shaped 0 0 0 v w refl tt
shape (Drivers a) = bytes a 0 0 refl tt
shape (Duties a b d) = bytes a b d refl tt
shape (Leds a b d) = bytes a b d refl tt
shape (Outputs a) = bytes a 0 0 refl tt
shape (Infrared a) = bytes a 0 0 refl tt
shape (Song a b) = bytes a b 0 refl tt
shape (Play a) = bytes a 0 0 refl tt
shape (Sensors a) = bytes a 0 0 refl tt
shape (QueryList a) = bytes a 0 0 refl tt
shape (Stream a) = bytes a 0 0 refl tt
shape (Pause a) = bytes a 0 0 refl tt
shape (Unknown a) = bytes a 0 0 refl tt
shape (NotOffered a) = bytes a 0 0 refl tt

module _ (f : Command → Bool) where
  -- the test at a tag, whatever the numbers are
  abbrev pub Passes : ℕ → ℕ → Type 0
  Passes first n = (a b d : ℕ) (v w : ℤ) → T (all_from (λ k. f (variant a b d v w k)) first n)

  pub every : Passes 0 25 → (c : Command) → T (f c)
  every t c =
      let s = shape c in
      let h = ltb→lt (tag_of the_type c) 25 s.small in
      subst (λ (x : Command). T (f x)) s.is
      (from (λ k. f (variant s.a s.b s.d s.v s.w k)) 0 25 (t s.a s.b s.d s.v s.w) (tag_of the_type c) zero-le (omega arith))

-- an arm of a `match` that takes these variants
pub of_tags : (f : Command → Bool) (ks : List ℕ) → ((a b d : ℕ) (v w : ℤ) → T (all (λ k. f (variant a b d v w k)) ks))
    → (c : Command) → OneOf ks (tag_of the_type c) → T (f c)
of_tags f ks t c h =
    let s = shape c in
    subst (λ (x : Command). T (f x)) s.is
    (one_of (λ k. f (variant s.a s.b s.d s.v s.w k)) ks (tag_of the_type c) (t s.a s.b s.d s.v s.w) h)
