use Rattle.far_frame.proofs.PinsRenewal.{migrated-holds, migrated-pins, migrated-here}
use Rattle.far_frame.proofs.laws.pins_outlast_a_migration.Goals as goal

pub returns : goal.returns
returns g c =
    let content = g.S.FarTickets.content in
    let new_content = g.N.FarTickets.content in
    record {
      run = migrated-holds content new_content;
      pins = migrated-pins content new_content;
      places = migrated-here content new_content;
    }
