-- `step::step` meets its contract: in each arm the command is known, and its own step gives what is asked.
-- Assumes nothing.
use mathlib.Core.Path.{refl}
use Rattle.step.specs.Arms.{bare, bare-read, read}
use Rattle.step.proofs.step.Goals as goal

pub returns-in-RegisterName : goal.returns-in-RegisterName
returns-in-RegisterName c = bare _ _ _ _ _ c.in-RegisterName.is refl c.register_name.ensures

pub returns-in-ReRegisterName : goal.returns-in-ReRegisterName
returns-in-ReRegisterName c = bare _ _ _ _ _ c.in-ReRegisterName.is refl c.re_register_name.ensures

pub returns-in-UnregisterName : goal.returns-in-UnregisterName
returns-in-UnregisterName c = bare _ _ _ _ _ c.in-UnregisterName.is refl c.unregister_name.ensures

pub returns-in-RegisteredNames : goal.returns-in-RegisteredNames
returns-in-RegisteredNames c =
    let a = c.args in
    read a.caller a.command _ a.t.now a.out.now c.in-RegisteredNames.is refl c.registered_names.ensures

pub returns-in-WhereisName : goal.returns-in-WhereisName
returns-in-WhereisName c = bare-read _ _ _ _ _ c.in-WhereisName.is refl refl c.whereis_name.ensures

pub returns-in-WhereisNameAt : goal.returns-in-WhereisNameAt
returns-in-WhereisNameAt c = bare _ _ _ _ _ c.in-WhereisNameAt.is refl c.whereis_name_at.ensures

pub returns-in-Send : goal.returns-in-Send
returns-in-Send c = bare _ _ _ _ _ c.in-Send.is refl c.send.ensures

pub returns-in-SendName : goal.returns-in-SendName
returns-in-SendName c = bare _ _ _ _ _ c.in-SendName.is refl c.send_name.ensures

pub returns-in-SendAt : goal.returns-in-SendAt
returns-in-SendAt c = bare _ _ _ _ _ c.in-SendAt.is refl c.send_at.ensures

pub returns-in-NewSGroup : goal.returns-in-NewSGroup
returns-in-NewSGroup c = bare _ _ _ _ _ c.in-NewSGroup.is refl c.new_s_group.ensures

pub returns-in-AddNodes : goal.returns-in-AddNodes
returns-in-AddNodes c = bare _ _ _ _ _ c.in-AddNodes.is refl c.add_nodes.ensures

pub returns-in-RemoveNodes : goal.returns-in-RemoveNodes
returns-in-RemoveNodes c = bare _ _ _ _ _ c.in-RemoveNodes.is refl c.remove_nodes.ensures

pub returns-in-DeleteSGroup : goal.returns-in-DeleteSGroup
returns-in-DeleteSGroup c = bare _ _ _ _ _ c.in-DeleteSGroup.is refl c.delete_s_group.ensures

pub returns-in-OwnNodes : goal.returns-in-OwnNodes
returns-in-OwnNodes c = bare-read _ _ _ _ _ c.in-OwnNodes.is refl refl c.own_nodes.ensures

pub returns-in-OwnSGroups : goal.returns-in-OwnSGroups
returns-in-OwnSGroups c =
    let a = c.args in
    read a.caller a.command _ a.t.now a.out.now c.in-OwnSGroups.is refl c.own_s_groups.ensures
