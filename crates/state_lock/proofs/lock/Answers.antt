-- The two tests of masks, at the place that bars, are the grant; a grant adds the asker to the holders.
use mathlib.Core.Path.{sym, ap, ◌∙◌}
use mathlib.Core.Bool.{Bool, cond}
use borrow.Author.Rules.{rules}
use Rattle.leaf_set.specs.Sets.{sets}
use Rattle.state_array.specs.Changes.{access_when, joined_for}
use Rattle.leaf_number.specs.Named.{transaction_of, record_of}
use Rattle.state_lock.proofs.Granting.{open_is, asked}
use Rattle.state_lock.proofs.lock.Goals as goal

pub returns-then-ok : goal.returns-then-ok
unfolding sets
returns-then-ok c =
    let index = c.index in
    let barring_place = c.barring_place-k in
    let number = c.number in
    let single = c.single-own in
    let within = c.within-free in
    let index2 = c.index-2 in
    let within2 = c.within-above in
    let if1 = c.if-ok in
    let a = c.args in
    let q = access_when a.reading in
    record {
      says = open_is _ (sets a.held.now) (sets a.retained.now) _ _ _ _ _ single.ensures within.ensures within2.ensures
          ∙ asked (sets a.held.now) (sets a.retained.now) (sets a.line.now) q index2.ensures.0 number.ensures.0 index.ensures.0 barring_place.ensures.0;
      does = c.hold.ensures.are ∙ sym (ap (λ (b : Bool). cond b (joined_for q (transaction_of a.t) (record_of a.r) (sets a.held.now)) (sets a.held.now)) if1.true);
      long = c.hold.ensures.long;
    }

pub returns-else-ok : goal.returns-else-ok
unfolding sets
returns-else-ok c =
    let index = c.index in
    let barring_place = c.barring_place-k in
    let number = c.number in
    let single = c.single-own in
    let within = c.within-free in
    let index2 = c.index-2 in
    let a = c.args in
    let q = access_when a.reading in
    record {
      says = open_is _ (sets a.held.now) (sets a.retained.now) _ _ _ _ _ single.ensures within.ensures c.within-above.ensures
          ∙ asked (sets a.held.now) (sets a.retained.now) (sets a.line.now) q index2.ensures.0 number.ensures.0 index.ensures.0 barring_place.ensures.0;
      does = sym (ap (λ (b : Bool). cond b (joined_for q (transaction_of a.t) (record_of a.r) (sets a.held.now)) (sets a.held.now)) c.if-ok.false);
      long = search rules;
    }
