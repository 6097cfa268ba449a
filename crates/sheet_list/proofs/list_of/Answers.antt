-- What was made, told in C's numbers.
use Rattle.sheet_list.proofs.list_of.Goals as goal

pub returns-in-Err-Small : goal.returns-in-Err-Small
returns-in-Err-Small c = let e = c.in-Err-Small in rw e.field-0-is at (e.ensures c.args.told.now)

pub returns-in-Err-NoSheet : goal.returns-in-Err-NoSheet
returns-in-Err-NoSheet c = let e = c.in-Err-NoSheet in rw e.field-0-is at (e.ensures c.args.told.now)
