-- The list is played on the arrays of the state that is lent.
use mathlib.Core.Path.{refl}
use mathlib.Core.Logic.{inl}
use borrow.Author.Rules.{rules}
use Rattle.engine_list.proofs.Words.{four_of}
use Rattle.engine_portion.proofs.portion.Goals as goal

pub play-requires : goal.play-requires
play-requires g c =
    let p = c.requires in
    (search rules, ((p.1, refl), (p.0, (four_of _ p.1.many, inl refl, search rules, search rules))))
