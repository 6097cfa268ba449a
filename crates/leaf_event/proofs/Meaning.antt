-- The event of the rules that an event of each kind stands for.
use mathlib.Core.Path.{◌≡◌, refl}
use mathlib.Core.Option.{none, some}
use Rattle.rules.specs.Event.{event_at, access_of, report_of, decision_of, begin, lock, write, read, commit, abort, crash, recover, prepare, decide, query}
use Rattle.rules.specs.Geometry.{records}
use Rattle.rules.specs.Editions.{geometry1}
use Rattle.leaf_event.specs.Meaning.{meaning, fields_of, InRange, InWord}
use Rattle.leaf_event.specs.declared.Event.{Event}

pub means_bad : (e : Event) → e.kind ≡ 0 → meaning e ≡ none
unfolding meaning fields_of event_at
means_bad e h = rw h refl

pub means_begin : (e : Event) → e.kind ≡ 1 → meaning e ≡ some (begin e.transaction)
unfolding meaning fields_of event_at
means_begin e h = rw h refl

pub means_lock : (e : Event) → e.kind ≡ 2 → meaning e ≡ some (lock e.transaction e.rec (access_of e.value))
unfolding meaning fields_of event_at
means_lock e h = rw h refl

pub means_write : (e : Event) → e.kind ≡ 3 → meaning e ≡ some (write e.transaction e.rec e.offset e.value)
unfolding meaning fields_of event_at
means_write e h = rw h refl

pub means_read : (e : Event) → e.kind ≡ 4 → meaning e ≡ some (read e.transaction e.rec e.offset)
unfolding meaning fields_of event_at
means_read e h = rw h refl

pub means_commit : (e : Event) → e.kind ≡ 5 → meaning e ≡ some (commit e.transaction e.count)
unfolding meaning fields_of event_at
means_commit e h = rw h refl

pub means_abort : (e : Event) → e.kind ≡ 6 → meaning e ≡ some (abort e.transaction (report_of e.value))
unfolding meaning fields_of event_at
means_abort e h = rw h refl

pub means_crash : (e : Event) → e.kind ≡ 7 → meaning e ≡ some crash
unfolding meaning fields_of event_at
means_crash e h = rw h refl

pub means_recover : (e : Event) → e.kind ≡ 8 → meaning e ≡ some (recover e.count)
unfolding meaning fields_of event_at
means_recover e h = rw h refl

pub means_prepare : (e : Event) → e.kind ≡ 9 → meaning e ≡ some (prepare e.transaction e.count e.value)
unfolding meaning fields_of event_at
means_prepare e h = rw h refl

pub means_decide : (e : Event) → e.kind ≡ 10 → meaning e ≡ some (decide (decision_of e.offset) e.count e.value)
unfolding meaning fields_of event_at
means_decide e h = rw h refl

pub means_query : (e : Event) → e.kind ≡ 11 → meaning e ≡ some (query e.value)
unfolding meaning fields_of event_at
means_query e h = rw h refl

-- edition 1's word
pub in_word1 : (e : Event) → InRange e → InWord geometry1 e
unfolding records
in_word1 e R = record { kind = R.kind; transaction = R.transaction; rec = R.rec; offset = R.offset; count = R.count; value = R.value; joint = λ h. refl; still = λ h. refl }

pub in_range1 : (e : Event) → InWord geometry1 e → InRange e
unfolding records
in_range1 e R = record { kind = R.kind; transaction = R.transaction; rec = R.rec; offset = R.offset; count = R.count; value = R.value }
