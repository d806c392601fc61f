use Rattle.std.proofs.Common.{refl, rules}
use Rattle.records.proofs.Fronts.{decoded_one}
use Rattle.records.proofs.decode.decode.Goals as goal
use Rattle.records.specs.declared.record.Kind.TheVariants.{Read, Switch, Enter, Erase, DeviceRead}

pub returns-in-Read : goal.returns-in-Read
returns-in-Read c =
    let p = decoded_one c.args.record c.args.words.now _ Read _ _ (search rules) c.in-Read.is c.read.ensures c.in_ok-checked_kind.ensures (λ rest. refl) in
    record { value = p.0; within = p.1 }

pub returns-in-Switch : goal.returns-in-Switch
returns-in-Switch c =
    let p = decoded_one c.args.record c.args.words.now _ Switch _ _ (search rules) c.in-Switch.is c.switch.ensures c.in_ok-checked_kind.ensures (λ rest. refl) in
    record { value = p.0; within = p.1 }

pub returns-in-Enter : goal.returns-in-Enter
returns-in-Enter c =
    let p = decoded_one c.args.record c.args.words.now _ Enter _ _ (search rules) c.in-Enter.is c.enter.ensures c.in_ok-checked_kind.ensures (λ rest. refl) in
    record { value = p.0; within = p.1 }

pub returns-in-Erase : goal.returns-in-Erase
returns-in-Erase c =
    let p = decoded_one c.args.record c.args.words.now _ Erase _ _ (search rules) c.in-Erase.is c.erase.ensures c.in_ok-checked_kind.ensures (λ rest. refl) in
    record { value = p.0; within = p.1 }

pub returns-in-DeviceRead : goal.returns-in-DeviceRead
returns-in-DeviceRead c =
    let p = decoded_one c.args.record c.args.words.now _ DeviceRead _ _ (search rules) c.in-DeviceRead.is c.device_read.ensures c.in_ok-checked_kind.ensures (λ rest. refl) in
    record { value = p.0; within = p.1 }
