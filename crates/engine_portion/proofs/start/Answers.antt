-- All zeros stand for the state that is down with nothing live.
use native.Mathlib.Omega.{arith}
use Rattle.rules.specs.Editions.{geometry_of, form_in}
use Rattle.event_crash.proofs.Editions.{served_of}
use Rattle.event_crash.proofs.Falls.{zeros_intact, zeros_down}
use Rattle.engine_portion.proofs.start.Goals as goal

pub returns : goal.returns
returns c = λ edition joint tears N work store w s. let f = form_in tears (geometry_of edition) in let S = served_of edition in
    (zeros_intact f 16 work store N.many (let many = N.many in omega arith) s (record { few = S.few; deep = S.deep }), zeros_down f 16 work store)
