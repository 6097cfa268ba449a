-- The depot's table: an identity isn't given while a vote is asked for, and nothing else moves an idle one; a decision is told again and not given
-- up. A start leaves no decision; else a decision that is held stays, and the order tells the one that is held then.
use mathlib.Core.Path.{◌≡◌, refl, ap, subst}
use mathlib.Core.Bool.{Bool, true, false, true≢false, false≢true}
use mathlib.Core.Logic.{◌≢◌}
use mathlib.Core.Option.{Option, none, some}
use Rattle.depot_agreement.specs.Depot.{Stage, idle, asked, committed, aborted, Input, start, yes, no, give_up, Order, to_prepare, to_commit, to_abort, Turn, goes, refused, table, decision, open_depot}
use Rattle.depot_agreement.specs.Messages.{input_of}

-- the decision that an order tells
abbrev pub ruling : Order → Option Bool
ruling to_prepare = none
ruling to_commit = some true
ruling to_abort = some false

abbrev pub is_start : Input → Bool
is_start start = true
is_start yes = false
is_start no = false
is_start give_up = false

-- what an option says, or true
abbrev unsaid : Option Bool → Bool
unsaid none = true
unsaid (some b) = b

pub none-some : {A B : Type 0} {a : B} → none ≡ some a → A
none-some e = absurd (true≢false (ap (λ o. elim o [ none ↦ true | some a ↦ false ]) e))

pub not_given_anew : (d : Stage) (q : Order) → table asked start ≡ goes d q → ⊥
unfolding open_depot
not_given_anew d q e = true≢false (ap (λ t. elim t [ goes s x ↦ false | refused n ↦ true ]) e)

pub only_start : (x : Input) → is_start x ≡ false → table idle x ≡ refused 27
unfolding open_depot
only_start start e = absurd (true≢false e)
only_start yes e = refl
only_start no e = refl
only_start give_up e = refl

pub start_asks : (s : Stage) → s ≢ asked → table s start ≡ goes asked to_prepare
unfolding open_depot
start_asks idle h = refl
start_asks asked h = absurd (h refl)
start_asks committed h = refl
start_asks aborted h = refl

-- the order of a decision
abbrev pub ordered : Bool → Order
ordered true = to_commit
ordered false = to_abort

pub told_again : (s : Stage) (b v : Bool) → decision s ≡ some b → table s (input_of v) ≡ goes s (ordered b)
unfolding open_depot input_of
told_again idle b v e = none-some e
told_again asked b v e = none-some e
told_again committed true true e = refl
told_again committed true false e = refl
told_again committed false v e = absurd (true≢false (ap unsaid e))
told_again aborted false true e = refl
told_again aborted false false e = refl
told_again aborted true v e = absurd (false≢true (ap unsaid e))

pub not_given_up : (s : Stage) (b : Bool) → decision s ≡ some b → table s give_up ≡ refused 27
unfolding open_depot
not_given_up idle b e = none-some e
not_given_up asked b e = none-some e
not_given_up committed b e = refl
not_given_up aborted b e = refl

-- what a turn has to leave
abbrev Leaves : Stage → Bool → Turn → Type 0
Leaves s false (goes d q) = ((b : Bool) → decision s ≡ some b → decision d ≡ some b) × (ruling q ≡ decision d)
Leaves s true (goes d q) = (decision d ≡ none) × (ruling q ≡ decision d)
Leaves s x (refused n) = Unit {0}

leaves : (s : Stage) (x : Input) → Leaves s (is_start x) (table s x)
unfolding open_depot
leaves idle start = (refl, refl)
leaves idle yes = tt
leaves idle no = tt
leaves idle give_up = tt
leaves asked start = tt
leaves asked yes = (λ b e. none-some e, refl)
leaves asked no = (λ b e. none-some e, refl)
leaves asked give_up = (λ b e. none-some e, refl)
leaves committed start = (refl, refl)
leaves committed yes = (λ b e. e, refl)
leaves committed no = (λ b e. e, refl)
leaves committed give_up = tt
leaves aborted start = (refl, refl)
leaves aborted yes = (λ b e. e, refl)
leaves aborted no = (λ b e. e, refl)
leaves aborted give_up = tt

pub keeps : (s : Stage) (x : Input) (d : Stage) (q : Order) → is_start x ≡ false → table s x ≡ goes d q → ((b : Bool) → decision s ≡ some b → decision d ≡ some b) × (ruling q ≡ decision d)
keeps s x d q k e = subst (λ (b : Bool). Leaves s b (goes d q)) k (subst (λ (t : Turn). Leaves s (is_start x) t) e (leaves s x))

pub asks : (s : Stage) (d : Stage) (q : Order) → table s start ≡ goes d q → (decision d ≡ none) × (ruling q ≡ decision d)
asks s d q e = subst (λ (t : Turn). Leaves s true t) e (leaves s start)
