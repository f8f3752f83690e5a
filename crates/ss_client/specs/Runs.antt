-- What a machine is, as plain data, and the parts of an upload.
use Rattle.std.specs.Prelude.{◌==◌, Bool, false, not, List, [], take, drop}
use Rattle.ss_bso.specs.declared.parts.Part.{Part}
use Rattle.ss_device.specs.Device.{DeviceView}
use Rattle.ss_client.specs.declared.summaries.Fetch.{Fetch}
use Rattle.ss_client.specs.declared.summaries.Fetch.TheVariants.{Whole, Newer}
use Rattle.ss_client.specs.declared.runs.Run.{Run}
use Rattle.ss_client.specs.declared.runs.Stage.{Stage}
use Rattle.ss_client.specs.Leaves.{UploadView}

-- a machine: the device as it was started, what its run counts, and what it is about to send
pub record MachineView : Type 0 where
  pub device : DeviceView
  pub run : Run
  pub stage : Stage

-- the parts that are in the batch, those of the POST, and those of the POSTs after it
abbrev pub sent_of : UploadView → List Part
sent_of u = take u.sent u.parts

abbrev pub post_of : UploadView → List Part
post_of u = take u.count (drop u.sent u.parts)

abbrev pub rest_of : UploadView → List Part
rest_of u = drop u.count (drop u.sent u.parts)

-- a newer fetch is asked for, and the device was synced before
abbrev pub is_newer : DeviceView → Fetch → Bool
is_newer d Newer = not (d.stamp == 0)
is_newer d Whole = false

-- a run before anything was sent: its first request is under way, and no limits are known
abbrev pub first_run : Bool → Run
first_run newer = record {
  newer = newer;
  changes = [];
  limits = record { max_request_bytes = 0; max_post_records = 0; max_post_bytes = 0; max_total_records = 0; max_total_bytes = 0; max_record_payload_bytes = 0 };
  number = 1;
  posts = 0;
  fetches = 0;
}
