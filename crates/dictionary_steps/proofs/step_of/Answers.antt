-- `step_of` meets its contract, kind by kind.
use Rattle.dictionary_rules.specs.Step.{step_of}
use Rattle.dictionary_steps.proofs.step_of.Goals as goal

pub returns-in-KnownTag : goal.returns-in-KnownTag
unfolding step_of
returns-in-KnownTag c = rw c.in-KnownTag.is c.on_tag.ensures

pub returns-in-OpensComponent : goal.returns-in-OpensComponent
unfolding step_of
returns-in-OpensComponent c = rw c.in-OpensComponent.is c.on_component.ensures

pub returns-in-OpensMessage : goal.returns-in-OpensMessage
unfolding step_of
returns-in-OpensMessage c = rw c.in-OpensMessage.is c.on_message.ensures

pub returns-in-FieldItem : goal.returns-in-FieldItem
unfolding step_of
returns-in-FieldItem c = rw c.in-FieldItem.is c.on_field.ensures

pub returns-in-ComponentItem : goal.returns-in-ComponentItem
unfolding step_of
returns-in-ComponentItem c = rw c.in-ComponentItem.is c.on_item.ensures

pub returns-in-OpensGroup : goal.returns-in-OpensGroup
unfolding step_of
returns-in-OpensGroup c = rw c.in-OpensGroup.is c.on_group.ensures

pub returns-in-Closes : goal.returns-in-Closes
unfolding step_of
returns-in-Closes c = rw c.in-Closes.is c.on_close.ensures
