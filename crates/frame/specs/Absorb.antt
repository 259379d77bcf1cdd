-- Several bytes of one frame, taken at once.
-- Assumes nothing.
use Rattle.std.specs.Prelude.{◌≡◌, Bool, false, cond, ◌&&◌, List, [], ◌∷◌, ℕ, ◌+◌, ◌-◌, ◌≤◌, ◌<◌, min, T, leb, eqb, length, take}
use Rattle.wire.specs.Lists.{snoc}
use Rattle.wire.specs.Buffer.{placed}
use Rattle.frame.specs.Push.{Pushed, stores_body, push_of, pushed_as}
use Rattle.frame.specs.Reach.{reachable_of}
use Rattle.frame.specs.declared.Partial.{Partial}
use Rattle.frame.specs.declared.Taken.{Taken}

-- what the bytes of a slice leave; count of them are taken, and complete where the last of these
-- was the frame's last
pub record Absorbed : Type 0 where
  pub partial : Partial
  pub complete : Bool
  pub count : ℕ

-- what is left, and how many bytes were taken
abbrev pub counted : Pushed → ℕ → Absorbed
counted x n = record { partial = x.partial; complete = x.complete; count = n }

-- whether n bytes of the body are stored: where the body is, and there is room for all of them
abbrev pub keeps : Partial → ℕ → Bool
keeps p n = stores_body p.bytes && (leb n 35 && leb p.count (35 - n))

-- what they leave, at most as many as remain
abbrev pub body_of : Partial → List ℕ → Pushed
body_of p bs =
    record {
      partial =
          record {
            bytes = cond (keeps p (length bs)) (placed bs p.count p.bytes) p.bytes;
            count = cond (keeps p (length bs)) (p.count + length bs) p.count;
            remaining = p.remaining - length bs;
          };
      complete = eqb p.remaining (length bs);
    }

-- what is taken of a slice: one byte while the length is not known, and then those that remain, or
-- as many as there are
unfoldable pub absorb_of : Partial → List ℕ → Absorbed
absorb_of p [] = record { partial = p; complete = false; count = 0 }
absorb_of p (b ∷ bs) =
    let n = min p.remaining (length (b ∷ bs)) in
    cond (eqb p.remaining 0) (counted (push_of p b) 1) (counted (body_of p (take n (b ∷ bs))) n)

-- what the code tells of it
abbrev pub taken_as : Taken → Absorbed
taken_as t = counted (pushed_as t.frame) t.count

-- ---- one by one

-- bytes that a frame takes, one by one, of which none completes it, and the frame that they leave
abbrev pub Waits : Partial → List ℕ → Partial → Type 0
Waits p [] q = p ≡ q
Waits p (b ∷ bs) q = ((push_of p b).complete ≡ false) × Waits (push_of p b).partial bs q

-- what is absorbed of a slice: bytes that wait, and a last one, which leaves the frame, complete
-- or not
pub record Steps (p : Partial) (bs : List ℕ) (r : Absorbed) : Type 0 where
  pub front : List ℕ
  pub last : ℕ
  pub before : Partial
  pub taken : take r.count bs ≡ snoc front last
  pub waits : Waits p front before
  pub ends : push_of before last ≡ record { partial = r.partial; complete = r.complete }

-- THEOREM: bytes taken at once
pub record TakenAtOnce : Type 0 where
  -- they leave a reachable frame as they do one by one
  pub steps : (p : Partial) (bs : List ℕ) → T (reachable_of p) → 0 < length bs → Steps p bs (absorb_of p bs)
  -- of every frame, reachable or not: at least one is taken, and no more than there are
  pub some : (p : Partial) (bs : List ℕ) → 0 < length bs → (1 ≤ (absorb_of p bs).count) × ((absorb_of p bs).count ≤ length bs)
  -- of an empty slice none is, and nothing is complete
  pub none : (p : Partial) → absorb_of p [] ≡ record { partial = p; complete = false; count = 0 }
