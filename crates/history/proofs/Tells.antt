-- What the history tells holds of bearers, versions and settled records, and goes on holding when transactions end.
use mathlib.Core.Path.{◌≡◌, refl, sym, ap, subst⁻¹, ◌∙◌, fun_ext}
use mathlib.Core.Bool.{Bool, true, false, cond, true≢false, false≢true}
use mathlib.Core.List.{List, [], ◌∷◌}
use mathlib.Core.Logic.{◌≢◌}
use mathlib.Core.Option.{Option, none}
use Prim.Native.Nat.{ℕ}
use Rattle.laws.specs.Tests.{same}
use Rattle.laws.proofs.Tests.{same_cases, Same, is, isnt, same-eq, same_refl, ne_false}
use Rattle.laws.proofs.Booleans.{clash}
use Rattle.rules.specs.Geometry.{nobody}
use Rattle.rules.specs.Store.{Page}
use Rattle.rules.specs.State.{Bearer, Bearers, free, active, is_active, line_of, mem, Versions, open_state}
use Rattle.rules.specs.Versions.{is_some, else, dropped}
use Rattle.rules.proofs.Tree.{Lines, is_cons}
use Rattle.rules.proofs.Bearers.{Rooted, rooted_tree, active_line, parent_line, ended_in, ended_line}
use Rattle.history.specs.History.{committed, stored, waiting, ended, Write, History, is_bearing, ending, all_ending, after, decides}
use Rattle.history.proofs.Roots.{Root, settled, waiting as awaiting, at, move, lose, all_lost, resolve}
use Rattle.history.proofs.Data.{Data, gone, lift, child_data, top_data, lose_data}
use Rattle.history.proofs.Waits.{Waits, repend, waits_lost, waits_child, waits_top, prepare_data, prepare_waits, decided_data, decided_waits}
use Rattle.history.proofs.Table.{Table, bearer_one, root_bearer}
use Rattle.history.proofs.TableKept.{ended_table, decide_table}

pub record Tells (start : ℕ → Page) (b : Bearers) (ver : Versions) (now : ℕ → Page) (pend : ℕ → Option Page) (h : History) (root : ℕ → Root) : Type 0 where
  pub data' : Data (line_of b) ver now start root h.writes
  pub table : Table b h root
  pub waits : Waits pend start root h.writes

pub renow : {line : Lines} {ver : Versions} {now now' start : ℕ → Page} {root : ℕ → Root} {ws : List Write}
    → Data line ver now start root ws → ((r : ℕ) → now' r ≡ now r) → Data line ver now' start root ws
renow D k = record { on_store = λ r. k r ∙ D.on_store r; on_version = D.on_version; on_wrote = D.on_wrote }

-- over a store with the same settled records, where the same is pending
pub restored : {start : ℕ → Page} {b : Bearers} {ver : Versions} {now now' : ℕ → Page} {pend pend' : ℕ → Option Page} {h : History} {root : ℕ → Root}
    → Tells start b ver now pend h root → ((r : ℕ) → now' r ≡ now r) → ((r : ℕ) → pend' r ≡ pend r) → Tells start b ver now' pend' h root
restored H k e = record { data' = renow H.data' k; table = H.table; waits = repend H.waits e }

-- the label of a top transaction's writes after its commit: settled where it survives
abbrev pub top_turn : ℕ → Bool → Root → Root
top_turn x true c = move x settled c
top_turn x false c = lose (λ j. same j x) c

module _ {limit : ℕ} {b : Bearers} (S : Rooted limit nobody b) {start : ℕ → Page} {ver : Versions} {now : ℕ → Page} {pend : ℕ → Option Page} {h : History} {root : ℕ → Root}
    (H : Tells start b ver now pend h root) where
  relined : (dead : ℕ → Bool) → ((z a : ℕ) → dead z ≡ false → dead a ≡ true → mem a (line_of b z) ≡ false) → {ver' : Versions} {now' : ℕ → Page} {root' : ℕ → Root} {ws : List Write}
      → Data (λ j. cond (dead j) [] (line_of b j)) ver' now' start root' ws → Data (line_of (ended_in b dead)) ver' now' start root' ws
  relined dead closed {ver'} {now'} {root'} {ws} D = subst⁻¹ (λ (l : Lines). Data l ver' now' start root' ws) (fun_ext (ended_line S dead closed)) D

  -- those that `dead` picks by number and `who` by transaction end, and their writes are lost
  pub lost_tells : (dead who : ℕ → Bool) → ((z a : ℕ) → dead z ≡ false → dead a ≡ true → mem a (line_of b z) ≡ false)
      → ((t : ℕ) → is_active (b t) ≡ true → who (h.bearer t) ≡ dead t)
      → Tells start (ended_in b dead) (dropped dead ver) now pend (ending who ended h) (λ i. lose dead (root i))
  unfolding dropped ending is_bearing
  lost_tells dead who closed picks = record {
    data' = relined dead closed (lose_data H.data' dead closed);
    table = ended_table S H.table dead who ended (lose dead) closed picks refl refl refl refl (λ t d. rw d) (λ t e d. rw d);
    waits = waits_lost H.waits dead;
  }

  -- the decision on what is pending, of which nobody has a version
  pub decide_tells : (records : ℕ) (d : Bool) → ((j r : ℕ) → is_some (ver j r) ≡ true → is_some (pend r) ≡ false)
      → Tells start b ver (λ r. cond d (else (pend r) (now r)) (now r)) (λ r. none) (after records (decides d) h) (λ i. resolve d (root i))
  unfolding after
  decide_tells records d apart = record {
    data' = decided_data H.data' H.waits d apart;
    table = decide_table S H.table records d;
    waits = decided_waits H.data' H.waits d apart;
  }

  -- all end
  pub down_tells : Tells start (λ t. free) (λ t r. none) now pend (all_ending h) (λ i. all_lost (root i))
  unfolding open_state dropped all_ending
  down_tells = let all : Tells start (ended_in b (λ t. true)) (dropped (λ t. true) ver) now pend (ending (λ i. true) ended h) (λ i. lose (λ a. true) (root i)) =
      lost_tells (λ t. true) (λ i. true) (λ z a p q. absurd (true≢false p)) (λ t e. refl) in
      record { data' = all.data'; table = all.table; waits = all.waits }

  -- a transaction x that ends alone
  module _ (x : ℕ) (alive : is_active (b x) ≡ true) (leaf : (z : ℕ) → z ≢ x → mem x (line_of b z) ≡ false) where
    alone : (z a : ℕ) → same z x ≡ false → same a x ≡ true → mem a (line_of b z) ≡ false
    alone z a n k = rw (same-eq a x k) (leaf z (λ q. clash (same_refl x) (rw q at n)))

    picks : (t : ℕ) → is_active (b t) ≡ true → same (h.bearer t) (h.bearer x) ≡ same t x
    picks t e = go (same_cases t x)
      where
        go : Same t x → same (h.bearer t) (h.bearer x) ≡ same t x
        go (is q s _) = rw (q, same_refl (h.bearer x), same_refl x)
        go (isnt q s _) = ne_false (h.bearer t) (h.bearer x) (λ z. q (bearer_one H.table t x e alive z)) ∙ sym s

    -- the parent of x in the history, by the line of x
    pub parent_by : (p d : ℕ) → b x ≡ active p d → h.parent (h.bearer x) ≡ h.bearer p
    parent_by p d q = H.table.above x p d q

    pub top_parent : line_of b x ≡ x ∷ [] → h.parent (h.bearer x) ≡ 0
    unfolding is_active
    top_parent top = go (b x) refl alive
      where
        go : (c : Bearer) → b x ≡ c → is_active c ≡ true → h.parent (h.bearer x) ≡ 0
        go free q a = absurd (false≢true a)
        go (active p d) q a =
            let e : x ∷ line_of b p ≡ x ∷ [] = sym (parent_line S x p d q) ∙ top in
            let none_up : line_of b p ≡ [] = cc in
            parent_by p d q ∙ H.table.vacant p (active_line S p ∙ ap is_cons none_up)

    pub child_parent : (y : ℕ) → line_of b x ≡ x ∷ line_of b y → mem y (line_of b y) ≡ true → h.parent (h.bearer x) ≡ h.bearer y
    unfolding is_active mem
    child_parent y under own = go (b x) refl alive (line_of b y) refl own
      where
        go : (c : Bearer) → b x ≡ c → is_active c ≡ true → (l : List ℕ) → line_of b y ≡ l → mem y l ≡ true → h.parent (h.bearer x) ≡ h.bearer y
        go free q a l e m = absurd (false≢true a)
        go (active p d) q a [] e m = absurd (false≢true m)
        go (active p d) q a (u ∷ l) e m =
            let k : x ∷ line_of b p ≡ x ∷ line_of b y = sym (parent_line S x p d q) ∙ under in
            let z : line_of b p ≡ line_of b y = cc in
            let same_head : p ≡ y = sym ((rooted_tree S).first p u l (z ∙ e)) ∙ (rooted_tree S).first y u l e in
            parent_by p d q ∙ ap h.bearer same_head

    -- a top transaction: its commit record is written, or it isn't
    pub top_tells : (enough : Bool) (now' : ℕ → Page) → line_of b x ≡ x ∷ [] → ((r : ℕ) → is_some (pend r) ≡ true → is_some (ver x r) ≡ false) → ((z r : ℕ) → z ≢ x → is_some (ver x r) ≡ true → is_some (ver z r) ≡ true → ⊥)
        → (enough ≡ true → (r : ℕ) → now' r ≡ else (ver x r) (now r)) → (enough ≡ false → (r : ℕ) → now' r ≡ now r)
        → Tells start (ended_in b (λ j. same j x)) (gone x ver) now' pend (ending (λ k. same k (h.bearer x)) (cond enough stored ended) h) (λ i. top_turn x enough (root i))
    unfolding dropped ending is_bearing
    top_tells true now' top off apart kept lost' = record {
      data' = renow (relined (λ j. same j x) alone (top_data H.data' x leaf top apart)) (kept refl);
      table = ended_table S H.table (λ j. same j x) (λ k. same k (h.bearer x)) stored (move x settled) alone picks refl refl refl refl (λ t d. rw d) (λ t e d. rw d);
      waits = waits_top H.data' H.waits x off;
    }
    top_tells false now' top off apart kept lost' =
        let L = lost_tells (λ j. same j x) (λ k. same k (h.bearer x)) alone picks in
        record { data' = renow L.data' (lost' refl); table = L.table; waits = L.waits }

    -- a top transaction is prepared, where nothing was pending: what it changed is
    pub prepare_tells : (now' : ℕ → Page) → line_of b x ≡ x ∷ [] → ((r : ℕ) → is_some (pend r) ≡ false) → ((r : ℕ) → now' r ≡ now r)
        → Tells start (ended_in b (λ j. same j x)) (gone x ver) now' (ver x) (ending (λ k. same k (h.bearer x)) waiting h) (λ i. move x awaiting (root i))
    unfolding dropped ending is_bearing
    prepare_tells now' top idle kept = record {
      data' = renow (relined (λ j. same j x) alone (prepare_data H.data' H.waits x leaf top idle)) kept;
      table = ended_table S H.table (λ j. same j x) (λ k. same k (h.bearer x)) waiting (move x awaiting) alone picks refl refl refl refl (λ t d. rw d) (λ t e d. rw d);
      waits = prepare_waits H.data' H.waits x leaf top idle;
    }

    -- a child: its writes go to its parent y
    pub child_tells : (y : ℕ) → line_of b x ≡ x ∷ line_of b y → mem y (line_of b y) ≡ true → x ≢ y → is_active (b y) ≡ true
        → ((z r : ℕ) → z ≢ x → z ≢ y → is_some (ver x r) ≡ true → is_some (ver z r) ≡ true → mem y (line_of b z) ≡ false)
        → Tells start (ended_in b (λ j. same j x)) (lift x y ver) now pend (ending (λ k. same k (h.bearer x)) committed h) (λ i. move x (at y) (root i))
    unfolding dropped ending is_bearing
    child_tells y under own two on apart = record {
      data' = relined (λ j. same j x) alone (child_data H.data' x y leaf under own two apart);
      table = ended_table S H.table (λ j. same j x) (λ k. same k (h.bearer x)) committed (move x (at y)) alone picks refl refl refl refl (λ t d. rw d) goes;
      waits = waits_child H.waits x y;
    }
      where
        goes : (t : ℕ) → is_active (b t) ≡ true → same t x ≡ true → move x (at y) (at t) ≡ move x (at y) (root (h.parent (h.bearer t)))
        goes t e d =
            let q : t ≡ x = same-eq t x d in
            rw (q, same_refl x, child_parent y under own, root_bearer H.table y on, ne_false y x (λ z. two (sym z)))
