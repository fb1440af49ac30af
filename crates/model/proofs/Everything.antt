-- Every definition of the model that does not unfold by itself, under one name: a proof that says `unfolding everything` computes.
-- Written by tools/everything.py. Assumes nothing.
use Prim.Native.Nat.{ℕ}
use lib.Ieee.{add, sub, mul, div, of_int, of_bits, to_bits}
use Rattle.model.specs.Choice.{first_hit}
use Rattle.model.specs.Bytes.{low_bytes, as_number, part, same_bytes}
use Rattle.model.specs.Signature.{shifted, shifted_by, added, byte_in, crc_from}
use Rattle.model.specs.Reading.{pv_of, size_of, limited, integer_at, judge_real}
use Rattle.model.specs.Frames.{overlay, frames_read}
use Rattle.model.specs.Settings.{first_cob, second_cob, rows, bytes_of, judge, in_ranges}
use Rattle.model.specs.Validity.{signs, valid, sound, revokes}
use Rattle.model.specs.Store.{record_of, place_of, field, sound_n, sound_record, ok_n, ok, place_in, packed, placed, build, length_at, n_in, c_in, a_in, is_good, read, factory, group_from, loaded, address_from, renewed, readdressed}
use Rattle.model.specs.Parts.{error_register}
use Rattle.model.specs.Dictionary.{find}
use Rattle.model.specs.Service.{size_in, sdo_request, lss_request, remote_service, frame_service, service}
use Rattle.model.specs.Changes.{effect, applied, stored}
use Rattle.model.specs.Time.{timer_of, tpdo_frame, srdo_first, srdo_second, emcy_frame, transmission, heartbeat_due, tpdo_due, srdo_due, ticked, tick_frames, synced, sync_frames, answers_remote, remote_answered, remote_frames, emcy_due}
use Rattle.model.specs.Nmt.{lss_left, start_obeyed, start, stop, obeyed, commanded, reset_asked, nmt_change, readied, cleared, auto_start, reset}
use Rattle.model.specs.Sdo.{size_for, unearned, write_code, checked_write, sdo_change, segment_command, segment_sent, open_index, segment_code, segment_reply, sdo_reply, upload_after}
use Rattle.model.specs.Lss.{identity_part, matches, selection_after, mode_after, lss_after, pending_after, lss_change, lss_reply}
use Rattle.model.specs.Rules.{rule_ids, rule_bits, rule_nmt, rule_ranges, rule_honest, rule_start, rule_reported, rule_lss, rule_sync, rule_upload, rules}
use Rattle.model.specs.Step.{refusal, power_on_refusal, change_of, reply, heard, core_after, served, step, power_on, event_answer, power_on_answer}
use Rattle.model.specs.Run.{begun, continued, run}
use Rattle.model.specs.History.{line_refusal, held_address, or_factory, sdo_deed, lss_deed, reset_deed, service_deed, deed, lss_pending, service_pending, line_pending, moved, addresses, deeds, active_id, held_for, held_id_in, held_id, at_load, value}
use Rattle.model.specs.Pairs.{fv_of}
use Rattle.model.specs.Program.{hex_digit, digits, frame_text, refusal_text, line_text, log_text, frame_count, end_line, records, log_of, program}

unfoldable pub everything : ℕ
unfolding add sub mul div of_int of_bits to_bits first_hit low_bytes as_number part same_bytes shifted shifted_by added byte_in crc_from pv_of size_of limited integer_at judge_real overlay frames_read first_cob second_cob rows bytes_of judge in_ranges signs valid sound revokes record_of place_of field sound_n sound_record ok_n ok place_in packed placed build length_at n_in c_in a_in is_good read factory group_from loaded address_from renewed readdressed error_register find size_in sdo_request lss_request remote_service frame_service service effect applied stored timer_of tpdo_frame srdo_first srdo_second emcy_frame transmission heartbeat_due tpdo_due srdo_due ticked tick_frames synced sync_frames answers_remote remote_answered remote_frames emcy_due lss_left start_obeyed start stop obeyed commanded reset_asked nmt_change readied cleared auto_start reset size_for unearned write_code checked_write sdo_change segment_command segment_sent open_index segment_code segment_reply sdo_reply upload_after identity_part matches selection_after mode_after lss_after pending_after lss_change lss_reply rule_ids rule_bits rule_nmt rule_ranges rule_honest rule_start rule_reported rule_lss rule_sync rule_upload rules refusal power_on_refusal change_of reply heard core_after served step power_on event_answer power_on_answer begun continued run line_refusal held_address or_factory sdo_deed lss_deed reset_deed service_deed deed lss_pending service_pending line_pending moved addresses deeds active_id held_for held_id_in held_id at_load value fv_of hex_digit digits frame_text refusal_text line_text log_text frame_count end_line records log_of program
everything = 0
