-- A form of the store: a geometry, and the stable store as the events see it. The events ask no more of the store than stands here.
use Rattle.std.specs.Prelude.{ℕ, ◌*◌, Bool, List}
use Rattle.std.proofs.Math.Option.{Option}
use Rattle.rules.specs.Geometry.{Geometry, page_size, page_count}
use Rattle.rules.specs.Store.{Page, Pages, pages_of, flat, home, damaged, emptied, settled, read_prepared, identity_in, pending, fresh}
use Rattle.rules.specs.Commit.{Cut, commit_at, recover_at, prepare_at, decide_at}

pub record Medium : Type 1 where
  pub Store : Type 0
  -- its bytes: how many, the store that they spell, the bytes that a store leaves
  pub size : ℕ
  pub from_bytes : List ℕ → Store
  pub to_bytes : Store → List ℕ
  pub fresh : Store
  -- the settled value and the home page of a record
  pub settled : Store → ℕ → Page
  pub home : Store → ℕ → Page
  -- the commit page is damaged, is empty
  pub damaged : Store → Bool
  pub emptied : Store → Bool
  -- the page writes of a commit with these versions and of a recovery, cut at a count
  pub commit : Store → (ℕ → Option Page) → ℕ → Cut Store
  pub recover : Store → ℕ → Cut Store
  -- the identity of the transaction that is prepared, and what it has for each record that it changed
  pub prepared : Store → Option ℕ
  pub pending : Store → ℕ → Option Page
  -- the page writes of a prepare with these versions and an identity, and of a decision, cut at a count
  pub prepare : Store → (ℕ → Option Page) → ℕ → ℕ → Cut Store
  pub decide : Store → Bool → ℕ → Cut Store

pub record Form : Type 1 where
  pub geometry : Geometry
  pub medium : Medium

-- atomic pages
abbrev pub atomic_pages : Geometry → Medium
atomic_pages g = record {
  Store = Pages;
  size = page_count g * page_size;
  from_bytes = pages_of;
  to_bytes = flat (page_count g);
  fresh = fresh g;
  settled = settled g;
  home = λ s r. s (home g r);
  damaged = damaged g;
  emptied = emptied g;
  commit = commit_at g;
  recover = recover_at g;
  prepared = λ s. identity_in (read_prepared g (s 0));
  pending = pending g;
  prepare = prepare_at g;
  decide = decide_at g;
}

-- a geometry's form with atomic pages
abbrev pub atomic : Geometry → Form
atomic g = record { geometry = g; medium = atomic_pages g }
