-- Every row of the serial list's definitions holds: by computing.
use lib.Dec.{T}
use Rattle.laws.specs.Tests.{open_tests}
use Rattle.laws.specs.Counting.{open_counting}
use Rattle.laws.specs.Functions.{open_functions}
use Rattle.laws.specs.Bytes.{open_bytes}
use Rattle.rules.specs.Geometry.{open_geometry}
use Rattle.rules.specs.Event.{open_event}
use Rattle.rules.specs.Versions.{open_versions}
use Rattle.rules.specs.Step.{open_step}
use Rattle.history.specs.History.{nothing_yet, starting, open_history}
use Rattle.history.specs.Trials.{pending3}
use Rattle.claim_serial.specs.Serial.{open_serial}
use Rattle.claim_serial.specs.OneAtATime.{open_one}
use Rattle.claim_serial.specs.Rows.{closes_right, reads_right, plays_right, order_right, serial_right, renamed_right, naming_right}

pub closes_right_lem : T closes_right
unfolding open_tests open_bytes open_step open_serial
closes_right_lem = tt

pub reads_right_lem : T reads_right
unfolding open_tests open_bytes open_one
reads_right_lem = tt

pub plays_right_lem : T (plays_right nothing_yet)
unfolding open_tests open_counting open_functions open_bytes open_step open_history open_serial
plays_right_lem = tt

-- where one was prepared before
pub plays_right_start : T (plays_right (starting 16 pending3))
unfolding open_tests open_counting open_functions open_bytes open_versions open_step open_history open_serial
plays_right_start = tt

pub order_right_lem : T order_right
unfolding open_tests open_bytes open_step open_serial
order_right_lem = tt

pub serial_right_lem : T serial_right
unfolding open_tests open_bytes open_geometry open_event open_step open_serial
serial_right_lem = tt

pub renamed_right_lem : T renamed_right
unfolding open_tests open_bytes open_geometry open_event open_one
renamed_right_lem = tt

pub naming_right_lem : T naming_right
unfolding open_tests open_bytes open_one
naming_right_lem = tt
