-- Laws of what a call gives back: what each return of a call asks.
-- Assumes nothing.
use mathlib.Core.Path.{◌≡◌, refl, sym, ap, ◌∙◌}
use mathlib.Core.Bool.{Bool, true, false, cond}
use mathlib.Core.List.{List}
use Prim.Native.Nat.{ℕ}
use lib.Dec.{leb}
use lib.ListN.{length}
use Rattle.wire.specs.Buffer.{overwrite}
use Rattle.std.specs.Prelude.{Result}
use Rattle.wire.specs.Replies.{Reply, refused, wrote, Sent, told, number_of, reply_of, sent_of, left_in, Replied}
use Rattle.wire.specs.declared.Refusal.{Refusal}
use Rattle.wire.specs.declared.Refusal.TheVariants as refusal
use Rattle.board.specs.declared.Answer.{Answer}
use native.Mathlib.Omega.{arith}
use Rattle.state.specs.declared.State.{State}
use Rattle.board.specs.Outcome.{Outcome, gives, answers, fitted, Told, told_answer, answered, sent_as, written}

-- ---- what an answer tells

-- a number with nothing written
pub told_as : {a : Answer} {s : State} {sent : Result ℕ Refusal} (n : ℕ) → told sent ≡ record { number = n; length = 0 } → a ≡ record { state = s; sent = sent }
    → told_answer a ≡ answered (gives n s)
unfolding answered
told_as {s = s} n t e = ap told_answer e ∙ ap (λ (x : Sent). record { number = x.number; length = x.length; state = s }) t

-- no refusal has the number 0
pub number_above : (r : Refusal) → number_of r ≡ 0 → ⊥
number_above refusal.Unknown e = omega (arith, e)
number_above refusal.NotOffered e = omega (arith, e)
number_above refusal.WrongMode e = omega (arith, e)
number_above refusal.NotLegal e = omega (arith, e)
number_above refusal.NoSong e = omega (arith, e)
number_above refusal.Busy e = omega (arith, e)
number_above refusal.NoRoom e = omega (arith, e)
number_above refusal.BadRecord e = omega (arith, e)
number_above refusal.Waiting e = omega (arith, e)

-- ---- both equations

-- both equations of a contract, of the buffer d that is d' at exit
abbrev pub Met : Outcome → Told → List ℕ → List ℕ → Type 0
Met o r d d' = (r ≡ answered o) × (d' ≡ written o d)

-- of an outcome that is another one
pub met_as : {o x : Outcome} {r : Told} (d : List ℕ) {d' : List ℕ} → o ≡ x → Met x r d d' → Met o r d d'
met_as d e m = (m.0 ∙ ap answered (sym e), m.1 ∙ ap (λ (o : Outcome). written o d) (sym e))

-- ---- gives

-- a number without an answer leaves the buffer as it is
pub nothing_written : (n : ℕ) (s : State) (d : List ℕ) → d ≡ written (gives n s) d
unfolding written overwrite
nothing_written n s d = refl

pub met_gives : {o : Outcome} {r : Told} {n : ℕ} {s : State} (d : List ℕ) → o ≡ gives n s → r ≡ answered (gives n s) → Met o r d d
met_gives {n = n} {s = s} d e g = met_as d e (g, nothing_written n s d)

-- ---- a part of a call that leaves the record to the rest of it

abbrev pub MetSent : Outcome → Sent → List ℕ → List ℕ → Type 0
MetSent o r d d' = (r ≡ sent_as o) × (d' ≡ written o d)

pub sent_as_lem : {o x : Outcome} {r : Sent} (d : List ℕ) {d' : List ℕ} → o ≡ x → MetSent x r d d' → MetSent o r d d'
sent_as_lem d e m = (m.0 ∙ ap sent_as (sym e), m.1 ∙ ap (λ (o : Outcome). written o d) (sym e))

pub sent_number : (o : Outcome) {r : Sent} → r ≡ sent_as o → r.number ≡ o.number
unfolding sent_as
sent_number o e = ap (λ (r : Sent). r.number) e

pub sent_gives : {o : Outcome} {r : Sent} {n : ℕ} (s : State) (d : List ℕ) → o ≡ gives n s → r ≡ sent_of (refused n) → MetSent o r d d
unfolding sent_as
sent_gives {n = n} s d e g = sent_as_lem d e (g, nothing_written n s d)

-- ---- fitted: a reply of packet, where the list is legal

reply_legal : {legal : Bool} (bytes d : List ℕ) → legal ≡ true
    → reply_of legal bytes (length d) ≡ cond (leb (length bytes) (length d)) (wrote bytes) (refused 7)
unfolding reply_of
reply_legal bytes d e = rw e refl

sent_cond : (b : Bool) (bytes d : List ℕ) {d' : List ℕ} {sent : Sent} (s : State) → let reply = cond b (wrote bytes) (refused 7) in
    sent ≡ sent_of reply → d' ≡ left_in reply d → MetSent (cond b (answers bytes s) (gives 7 s)) sent d d'
unfolding sent_as written
sent_cond true bytes d s e f = (e, f)
sent_cond false bytes d s e f = (e, f ∙ nothing_written 7 s d)

pub sent_fitted : {legal : Bool} (bytes d : List ℕ) {d' : List ℕ} {sent : Result ℕ Refusal} (s : State) → legal ≡ true → Replied (reply_of legal bytes) d d' sent
    → MetSent (fitted bytes (length d) s) (told sent) d d'
sent_fitted bytes d s e x =
    let f = reply_legal bytes d e in
    sent_cond (leb (length bytes) (length d)) bytes d s (x.sent ∙ ap sent_of f) (x.buffer ∙ ap (λ (r : Reply). left_in r d) f)

-- with the record beside it
abbrev pub beside : State → Sent → Told
beside s sent = record { number = sent.number; length = sent.length; state = s }

-- of a call that leaves the record as it was
pub beside_kept : (o : Outcome) {s : State} → o.state ≡ s → beside s (sent_as o) ≡ answered o
unfolding answered sent_as
beside_kept o e = ap (λ (s : State). record { number = o.number; length = length o.answer; state = s }) (sym e)

fitted_beside : (b : Bool) (bytes : List ℕ) (s : State) → let o = cond b (answers bytes s) (gives 7 s) in beside s (sent_as o) ≡ answered o
unfolding answered sent_as
fitted_beside true bytes s = refl
fitted_beside false bytes s = refl

pub met_fitted : {legal : Bool} (bytes d : List ℕ) {d' : List ℕ} {sent : Result ℕ Refusal} (s : State) → legal ≡ true → Replied (reply_of legal bytes) d d' sent
    → Met (fitted bytes (length d) s) (beside s (told sent)) d d'
met_fitted bytes d s e x =
    let m = sent_fitted bytes d s e x in
    (ap (beside s) m.0 ∙ fitted_beside (leb (length bytes) (length d)) bytes s, m.1)
