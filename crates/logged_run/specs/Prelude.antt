-- The words of other crates that this one cites most often, passed on from one place.
pub use Rattle.avida_port.specs.Ports.{SinkState}
pub use Rattle.world_config.specs.Values.{values_of, ConfigValues}
pub use Rattle.world_core.specs.Scenes.{WorldValue}
pub use Rattle.world_core.specs.declared.picture.WorldPicture.{WorldPicture}
pub use Rattle.world_rules.specs.LogText.{end_text, head_text, log_text, update_text, updates_text}
pub use Rattle.world_rules.specs.Picture.{picture_of, picture_text}
pub use Rattle.written_texts.specs.SinkChanges.{Change, GainedFront, GainedText, SinkFailed, change}
pub use Rattle.written_texts.specs.WrittenText.{WritesAll}
pub use Rattle.avida_port.specs.declared.sink.SinkStop.{SinkStop}
