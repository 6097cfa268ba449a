-- By computing, from the most significant field down.
use Rattle.rules.specs.Event.{word}
use borrow.Author.Rules.{rules}
use Rattle.leaf_event.proofs.Event.to_word.Goals as goal

pub returns : goal.returns
unfolding word
returns c = search rules
